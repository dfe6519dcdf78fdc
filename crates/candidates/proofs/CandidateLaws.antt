-- The ends of the terms, one after another from the last item to the first; the arguments of a term, one after another.
use Prim.Native.Nat.{ℕ, suc, ◌+◌, ◌-◌, ◌*◌, ◌/◌, ◌≤◌, ◌<◌}
use mathlib.Core.Path.{◌≡◌, refl, sym, ap, ◌∙◌}
use mathlib.Core.List.{List}
use mathlib.Core.Bool.{Bool, true, false}
use native.Mathlib.Decide.{ℕ_discrete}
use native.Mathlib.Omega.{arith}
use native.Mathlib.Numerals.{add-one}
use borrow.Author.Tests.{le-leb, lt-leb}
use lib.ListN.{length, get_or, set, take, drop, replicate}
use lib.Seq.{get_or-set_same, get_or-set_other, sets, sets-eq, length-sets, take-append_seam}
use Rattle.terms.specs.Terms.{numbers}
use Rattle.terms.proofs.TermLaws.{length_numbers}
use Rattle.laws.specs.Choice.{pick}
use Rattle.slots.specs.Slots.{either}
use Rattle.keys.specs.Keys.{Args, node}
use Rattle.chains.specs.Chains.{find}
use Rattle.keysets.specs.KeySets.{Sets, met}
use Rattle.paths.specs.Rep.{lab}
use Rattle.definitions.specs.Trees.{firsts, arguments_after, forest, top, tree_of}
use Rattle.candidates.specs.Ends.{EndsFrom, Ended}
use Rattle.candidates.specs.Forests.{others_one, forest_next, forest_top, kids_done, kids_turn}
use Rattle.candidates.specs.Narrow.{Narrowed}
use Rattle.candidates.specs.Walk.{having, walk, walk_all}
use Rattle.laws.specs.Sizes.{key_limit, root_place, variable_base}
use Rattle.terms.specs.Terms.{arity}

pub ends_turn : (ends : List ℕ) (n i v : ℕ) → i < length ends → EndsFrom (i + 1) n ends → i < v → v ≤ n → EndsFrom i n (set ends i v)
ends_turn ends n i v h p a b j l m = go (ℕ_discrete j i)
  where
    go : Dec (j ≡ i) → (j < get_or (set ends i v) j 0) × (get_or (set ends i v) j 0 ≤ n)
    go (yes e) = rw (e, get_or-set_same ends i v 0 h) (a, b)
    go (no e) = rw (get_or-set_other ends i j v 0 e) (p j (omega arith) m)

pub ended_turn : (sig items ends : List ℕ) (i v : ℕ) → i < length ends → Ended (i + 1) sig items ends → forest sig (drop v items) ≡ arguments_after 1 (forest sig (drop i items)) → Ended i sig items (set ends i v)
ended_turn sig items ends i v h p q j l m = go (ℕ_discrete j i)
  where
    go : Dec (j ≡ i) → forest sig (drop (get_or (set ends i v) j 0) items) ≡ arguments_after 1 (forest sig (drop j items))
    go (yes e) = rw (e, get_or-set_same ends i v 0 h) q
    go (no e) = rw (get_or-set_other ends i j v 0 e) (p j (omega arith) m)

-- over the arguments of an item, a of them to come
pub after_start : (sig items : List ℕ) (i a : ℕ) → i < length items → a ≡ arity sig (get_or items i 0) → arguments_after a (forest sig (drop (i + 1) items)) ≡ arguments_after 1 (forest sig (drop i items))
after_start sig items i a h e = rw e (sym (forest_next sig items i h))

pub after_turn : (sig items ends : List ℕ) (from a b e : ℕ) (r : Args) → a ≡ b + 1 → from ≤ e → e < length items → Ended from sig items ends → arguments_after a (forest sig (drop e items)) ≡ r
    → arguments_after b (forest sig (drop (get_or ends e 0) items)) ≡ r
after_turn sig items ends from a b e r p l h d z =
    let s : a ≡ suc b = omega arith in
    rw (d e l h) (sym (others_one b (forest sig (drop e items))) ∙ (rw s at z))

pub after_done : (sig items : List ℕ) (a e : ℕ) (r : Args) → a ≡ 0 → arguments_after a (forest sig (drop e items)) ≡ r → forest sig (drop e items) ≡ r
unfolding arguments_after
after_done sig items a e r p z = rw p at z

module _ (link label : List ℕ) (σ : Sets) where
  pub having_is : (n e w k : ℕ) (ws r : List ℕ) → w ≡ lab n e → k ≡ find link label w → r ≡ met σ k ws → r ≡ having link label σ n e ws
  having_is n e w k ws r p q z = z ∙ ap (λ (i : ℕ). met σ i ws) (q ∙ ap (find link label) p)

  -- no key, no slot
  pub having_none : (n e w : ℕ) (ws r : List ℕ) → w ≡ lab n e → key_limit ≡ find link label w → r ≡ replicate 8 0 → r ≡ having link label σ n e ws
  unfolding met
  having_none n e w ws r p q z = z ∙ ap (λ (i : ℕ). met σ i ws) (q ∙ ap (find link label) p)

  module _ (qv tv : Bool) where
    walk_symbol : (x : ℕ) (us : Args) (n : ℕ) (ws : List ℕ) → x < variable_base
        → walk link label σ qv tv (node x us) n ws ≡ pick tv (either (walk_all link label σ qv tv us (find link label (lab n x) * 8) (having link label σ n x ws)) (having link label σ n 256 ws)) (walk_all link label σ qv tv us (find link label (lab n x) * 8) (having link label σ n x ws))
    unfolding walk
    walk_symbol x us n ws l = rw (lt-leb variable_base x l)

    -- the four ways out of a call
    module _ (sig items : List ℕ) (at place : ℕ) (ws : List ℕ) (h : at < length items) where
      pub walk_open : variable_base ≤ get_or items at 0 → qv ≡ true → ws ≡ walk link label σ qv tv (top (forest sig (drop at items))) place ws
      unfolding walk
      walk_open l e = rw (forest_top sig items at h, le-leb variable_base (get_or items at 0) l, e)

      pub walk_star : (r : List ℕ) → variable_base ≤ get_or items at 0 → qv ≡ false → r ≡ having link label σ place 256 ws → r ≡ walk link label σ qv tv (top (forest sig (drop at items))) place ws
      unfolding walk
      walk_star r l e z = rw (forest_top sig items at h, le-leb variable_base (get_or items at 0) l, e) z

      -- a symbol: what the loop over the arguments leaves, with the slots that have a variable there
      module _ (k next : ℕ) (deep all : List ℕ) (l : get_or items at 0 < variable_base) (n : next ≡ k * 8) (q : k ≡ find link label (lab place (get_or items at 0))) (d : deep ≡ having link label σ place (get_or items at 0) ws)
          (a : all ≡ walk_all link label σ qv tv (firsts (arity sig (get_or items at 0)) (forest sig (drop (at + 1) items))) next deep) where
        whole : all ≡ walk_all link label σ qv tv (firsts (arity sig (get_or items at 0)) (forest sig (drop (at + 1) items))) (find link label (lab place (get_or items at 0)) * 8) (having link label σ place (get_or items at 0) ws)
        whole = let us = firsts (arity sig (get_or items at 0)) (forest sig (drop (at + 1) items)) in
            a ∙ ap (λ (m : ℕ). walk_all link label σ qv tv us m deep) (n ∙ ap (λ (i : ℕ). i * 8) q) ∙ ap (walk_all link label σ qv tv us (find link label (lab place (get_or items at 0)) * 8)) d

        at_symbol : walk link label σ qv tv (top (forest sig (drop at items))) place ws ≡ pick tv (either all (having link label σ place 256 ws)) all
        at_symbol = rw (forest_top sig items at h, whole) (walk_symbol (get_or items at 0) _ place ws l)

        pub walk_plain : tv ≡ false → all ≡ walk link label σ qv tv (top (forest sig (drop at items))) place ws
        walk_plain e = sym (at_symbol ∙ ap (λ (b : Bool). pick b (either all (having link label σ place 256 ws)) all) e)

        pub walk_stars : (star r : List ℕ) → tv ≡ true → star ≡ having link label σ place 256 ws → r ≡ either all star → r ≡ walk link label σ qv tv (top (forest sig (drop at items))) place ws
        walk_stars star r e f g = g ∙ ap (either all) f ∙ sym (at_symbol ∙ ap (λ (b : Bool). pick b (either all (having link label σ place 256 ws)) all) e)

    -- where the loop over the arguments stands: the walk over those to come is the walk over all
    abbrev pub Kids : (items ends : List ℕ) (at x next₀ : ℕ) (deep₀ : List ℕ) (child end next : ℕ) (deep : List ℕ) → Type 0
    Kids items ends at x next₀ deep₀ child end next deep = (sig : List ℕ) → Ended 0 sig items ends
        → (j : ℕ) × (arguments_after j (forest sig (drop child items)) ≡ forest sig (drop end items))
        × (walk_all link label σ qv tv (firsts j (forest sig (drop child items))) next deep ≡ walk_all link label σ qv tv (firsts (arity sig x) (forest sig (drop (at + 1) items))) next₀ deep₀)

    pub kids_start : (items ends : List ℕ) (at next₀ end : ℕ) (deep₀ : List ℕ) → at < length items → end ≡ get_or ends at 0 → Kids items ends at (get_or items at 0) next₀ deep₀ (at + 1) end next₀ deep₀
    kids_start items ends at next₀ end deep₀ h e sig d = (arity sig (get_or items at 0), (rw e (sym (forest_next sig items at h) ∙ sym (d at (omega arith) h))), refl)

    pub kids_again : (items ends : List ℕ) (at x next₀ : ℕ) (deep₀ : List ℕ) (child end next : ℕ) (deep : List ℕ) (child' next' : ℕ) (deep' : List ℕ) → child < end → end ≤ length items
        → Kids items ends at x next₀ deep₀ child end next deep → Narrowed link label σ qv tv items ends child next deep deep' → child' ≡ get_or ends child 0 → next' ≡ next + 1
        → Kids items ends at x next₀ deep₀ child' end next' deep'
    unfolding walk_all
    kids_again items ends at x next₀ deep₀ child end next deep child' next' deep' l m g r p q sig d =
        let k = g sig d in
        let t = kids_turn sig items child end k.0 k.1 ends l m d in
        (k.0 - 1, rw p t.1, (rw (p, q, add-one, r sig d) (sym (ap (λ (us : Args). walk_all link label σ qv tv us next deep) t.0) ∙ k.2)))

    pub kids_all : (items ends : List ℕ) (at x next₀ : ℕ) (deep₀ : List ℕ) (child end next : ℕ) (deep : List ℕ) → end ≤ child → Kids items ends at x next₀ deep₀ child end next deep
        → (sig : List ℕ) → Ended 0 sig items ends → deep ≡ walk_all link label σ qv tv (firsts (arity sig x) (forest sig (drop (at + 1) items))) next₀ deep₀
    unfolding walk_all
    kids_all items ends at x next₀ deep₀ child end next deep l g sig d =
        let k = g sig d in
        let e = kids_done sig items child end k.0 k.1 l in
        sym (ap (λ (us : Args). walk_all link label σ qv tv us next deep) e) ∙ k.2

-- the items that were read off the question's bytes, at the start of the array
taken : (xs vs : List ℕ) (n : ℕ) → n ≡ length vs → n ≤ length (sets xs 0 vs) → take n (sets xs 0 vs) ≡ vs
taken xs vs n e h =
    let l : 0 + length vs ≤ length xs = omega (arith, length-sets xs 0 vs) in
    rw (e, sets-eq vs xs 0 l) (take-append_seam vs _)

pub candidates_end : (link label : List ℕ) (σ : Sets) (qv tv qv' tv' : Bool) (sig q items items₀ : List ℕ) (n : ℕ) (ws r : List ℕ) → n ≡ length q / 2 → items ≡ sets items₀ 0 (numbers q) → n ≤ length items
    → qv ≡ qv' → tv ≡ tv' → r ≡ walk link label σ qv tv (top (forest sig (drop 0 (take n items)))) root_place ws → r ≡ walk link label σ qv' tv' (tree_of sig q) root_place ws
unfolding tree_of
candidates_end link label σ qv tv qv' tv' sig q items items₀ n ws r e f l a b z =
    let t : take n items ≡ numbers q = rw f (taken items₀ (numbers q) n (e ∙ sym (length_numbers q)) (rw f at l)) in
    rw (← a, ← b, ← t) z
