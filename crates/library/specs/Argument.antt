-- SCOPE.md, 'Term bytes': 'the part of the caller's own bytes where it stands': the place of argument i in the bytes
-- of a term. That these bytes spell argument i of the term's tree is `argument_tree` of Spelt.
use Prim.Native.Nat.{ℕ, zero, suc, ◌+◌, ◌-◌, ◌≤◌, ◌<◌}
use Rattle.std.proofs.Common.{arith, sym, ◌∙◌, take-append-drop}
use Rattle.std.specs.Prelude.{◌≡◌, refl, List, [], ◌∷◌, ◌++◌}
use Rattle.std.proofs.Math.Path.{ap, subst}
use Rattle.std.proofs.Math.ListN.{length, take, drop, length-take, length-drop}
use Rattle.std.proofs.Math.Seq.{drop-drop, take-append_seam, drop-append_seam}
use Rattle.keys.specs.Keys.{Tm, Args, node, nil, cons}
use Rattle.terms.specs.Terms.{numbers, span, Signed, first_item, arg_refusal, arg_bytes, arg_start}
use Rattle.terms.proofs.TermLaws.{arg_none, length_numbers}
use Rattle.definitions.specs.Trees.{count_args, items_t, items_a, Shaped, firsts, arguments_after, tree_of}
use Rattle.definitions.specs.Spelt.{shapes_others, parts, shaped_count, tree_shaped, tree_spells, taken_term}
use Rattle.terms.specs.Terms.{arity}

-- t is the bytes of the term with root x and arguments us: they are what stands before argument i, its bytes, and
-- what follows. Before it stand the root's item and the arguments 1 to i - 1, after it the others, 'from left to
-- right'
pub record Placed (sig t : List ℕ) (i x : ℕ) (us : Args) : Type 0 where
  pub before : List ℕ
  pub after : List ℕ
  pub bytes : t ≡ before ++ (arg_bytes sig t i ++ after)
  pub start : length before ≡ arg_start sig t i
  pub left : numbers before ≡ x ∷ items_a (firsts (i - 1) us)
  pub right : numbers after ≡ items_a (arguments_after i us)

cut_back : (s n : ℕ) (t : List ℕ) → t ≡ take s t ++ (take n (drop s t) ++ drop n (drop s t))
cut_back s n t = sym (take-append-drop s t) ∙ ap (λ (r : List ℕ). take s t ++ r) (sym (take-append-drop n (drop s t)))

root_told : (x : ℕ) (us : Args) (t : List ℕ) → numbers t ≡ items_t (node x us) → (first_item t ≡ x) × (numbers (drop 2 t) ≡ items_a us)
unfolding numbers items_t
root_told x us [] e = absurd (let z : ◌≡◌ {A = ℕ} 0 1 = cc in omega arith)
root_told x us (a ∷ []) e = absurd (let z : ◌≡◌ {A = ℕ} 0 1 = cc in omega arith)
root_told x us (a ∷ b ∷ t) e = ((cc), (cc))

-- the root's item, and what is taken behind it
root_taken : (t : List ℕ) (n : ℕ) → 2 ≤ length t → numbers (take (2 + n) t) ≡ first_item t ∷ numbers (take n (drop 2 t))
unfolding numbers
root_taken [] n l = absurd (omega (arith, l))
root_taken (a ∷ []) n l = absurd (omega (arith, l))
root_taken (a ∷ b ∷ t) n l = let e : 2 + n ≡ suc (suc n) = omega arith in rw e

others_next : (k : ℕ) (us : Args) → k < count_args us → (arguments_after 1 (arguments_after k us) ≡ arguments_after (suc k) us) × (1 ≤ count_args (arguments_after k us))
unfolding arguments_after count_args
others_next k nil l = absurd (omega arith)
others_next zero (cons u us) l = (refl, omega arith)
others_next (suc k) (cons u us) l = others_next k us (omega arith)

module _ (sig t : List ℕ) (i : ℕ) (s : Signed sig) (h : arg_refusal sig t i ≡ 0) where
  -- where argument i is not refused, it stands there
  pub argument_placed : (x : ℕ) (us : Args) → tree_of sig t ≡ node x us → Placed sig t i x us
  unfolding arg_start arg_bytes Shaped
  argument_placed x us e =
      let n = arg_none sig t i h in
      let g = taken_term sig t s n.0 in
      let w : Shaped sig (node x us) = subst (λ (u : Tm). Shaped sig u) e (tree_shaped sig t s g) in
      let r = root_told x us t (tree_spells sig t s g ∙ ap items_t e) in
      let c : count_args us ≡ arity sig (first_item t) = shaped_count sig s.short x us w ∙ ap (λ (z : ℕ). arity sig z) (sym r.0) in
      let k : ℕ = i - 1 in
      let D = drop 2 t in
      let p = parts sig s.short D k us w.1 (omega (arith, c, n.2)) r.1 in
      let o = others_next k us (omega (arith, c, n.1, n.2)) in
      let a : ℕ = 2 + span sig D k in
      let E = drop a t in
      let d : drop (span sig D k) D ≡ E = drop-drop (span sig D k) 2 t in
      let f : numbers E ≡ items_a (arguments_after k us) = rw (← d) p.after in
      let q = parts sig s.short E 1 (arguments_after k us) (shapes_others sig k us w.1) o.1 f in
      let v : suc k ≡ i = omega (arith, n.1) in
      let y = length_numbers (take (span sig D k) D) in
      let z = ap length p.before in
      let m : a ≤ length t = omega (arith, y, z, p.long, length-take (span sig D k) D, length-drop 2 t, n.0.long) in
      record {
        before = take a t;
        after = drop (span sig E 1) E;
        bytes = rw h (cut_back a (span sig E 1) t);
        start = rw h (omega (arith, m, length-take a t));
        left = root_taken t (span sig D k) n.0.long ∙ rw (r.0, p.before);
        right = q.after ∙ ap items_a o.0 ∙ ap (λ (j : ℕ). items_a (arguments_after j us)) v;
      }

-- so the bytes from the start that is answered, as many as are answered, are the argument's
pub placed_part : (sig t : List ℕ) (i x : ℕ) (us : Args) → Placed sig t i x us → take (length (arg_bytes sig t i)) (drop (arg_start sig t i) t) ≡ arg_bytes sig t i
placed_part sig t i x us p =
    let a = arg_bytes sig t i in
    let d : drop (arg_start sig t i) t ≡ a ++ p.after = ap (λ (n : ℕ). drop n t) (sym p.start) ∙ ap (drop (length p.before)) p.bytes ∙ drop-append_seam p.before (a ++ p.after) in
    ap (take (length a)) d ∙ take-append_seam a p.after
