-- What callers use of the layout.
use Prim.Native.Nat.{ℕ, zero, suc, ◌+◌, ◌-◌, ◌*◌, ◌/◌, ◌%◌, ◌≤◌, ◌<◌, max}
use mathlib.Core.Path.{◌≡◌, refl, ap, sym, ◌∙◌}
use mathlib.Core.List.{List, [], ◌∷◌, ◌++◌}
use mathlib.Core.Bool.{Bool, true, false}
use native.Mathlib.Omega.{arith}
use borrow.Author.Tests.{ltb-true, ltb-false, leb-true, lt-ltb, le-ltb}
use lib.Dec.{ltb, eqb}
use lib.ListN.{length, get_or, set, take, drop, length-take, length-drop, length-set, length-append, length-replicate, replicate}
use lib.Seq.{sets, length-sets}
use Rattle.std.specs.List.{fold}
use Rattle.laws.specs.Choice.{pick}
use borrow.Rule.Slice.PartMut.{put_mid}
use Rattle.std.proofs.lemmas.List.{append_assoc, drop-drop, length-take-le}
use Rattle.std.proofs.lemmas.List.Edits.{sets-eq}
use Rattle.std.proofs.lemmas.Grind.{same_number_lists}
use Rattle.terms.specs.Terms.{Signed}
use Rattle.layout.specs.Layout.{sets_long, long_enough, Long, largest_of, arities, signature_of, term_of, used_of, is_used, blank, signed, with_term}
use Rattle.slots.specs.Slots.{has, words8}
use Rattle.slots.proofs.SlotLaws.{get_or_words8}
use Rattle.laws.specs.Sizes.{bytes_length, key_limit, lengths_start, link_length, set_length, slot_count, terms_start}

past : (b : Bool) (x : Bool) → pick b false x ≡ true → (b ≡ false) × (x ≡ true)
past true x h = absurd (let z : ◌≡◌ {A = ℕ} 0 1 = cc in omega arith)
past false x h = (refl, h)

pub long : (b u l k s0 s1 s2 s3 : ℕ) → long_enough b u l k s0 s1 s2 s3 ≡ true → Long b u l k s0 s1 s2 s3
unfolding long_enough sets_long
long b u l k s0 s1 s2 s3 h =
    let p = past (ltb b bytes_length) _ h in
    let q = past (ltb u 8) _ p.1 in
    let r = past (ltb l key_limit) _ q.1 in
    let s = past (ltb k link_length) _ r.1 in
    let t = past (ltb s0 set_length) _ s.1 in
    let v = past (ltb s1 set_length) _ t.1 in
    let w = past (ltb s2 set_length) _ v.1 in
    record {
      bytes = ltb-false _ _ p.0;
      used = ltb-false _ _ q.0;
      labels = ltb-false _ _ r.0;
      links = ltb-false _ _ s.0;
      l0 = ltb-false _ _ t.0;
      l1 = ltb-false _ _ v.0;
      l2 = ltb-false _ _ w.0;
      l3 = leb-true _ _ w.1;
    }

-- the largest, as a fold finds it
largest_from : (a : ℕ) (s : List ℕ) → fold max a s ≡ max a (largest_of s)
unfolding largest_of
largest_from a [] = omega arith
largest_from a (x ∷ s) = omega (arith, largest_from (max a x) s)

pub largest_is : (s : List ℕ) (m : ℕ) → m ≡ fold max 0 s → m ≡ largest_of s
largest_is s m e = omega (arith, e, largest_from 0 s)

largest_le : (s : List ℕ) (x : ℕ) → get_or s x 0 ≤ largest_of s
unfolding largest_of
largest_le [] x = omega arith
largest_le (a ∷ s) zero = omega arith
largest_le (a ∷ s) (suc x) = omega (arith, largest_le s x)

-- a signature that is read from the table serves every check, whatever the memory held
pub signature_good : (b : List ℕ) → Signed (signature_of b)
unfolding signature_of
signature_good b = go (ltb 256 (get_or b 0 0 * 256 + get_or b 1 0)) (ltb 8 (largest_of (arities b))) refl refl
  where
    no_signature : Signed []
    no_signature = record { short = omega arith; eight = λ x. omega arith }

    go : (p q : Bool) → ltb 256 (get_or b 0 0 * 256 + get_or b 1 0) ≡ p → ltb 8 (largest_of (arities b)) ≡ q → Signed (pick p [] (pick q [] (arities b)))
    go true q e f = no_signature
    go false true e f = no_signature
    go false false e f = record {
      short = (let z = ltb-false 256 (get_or b 0 0 * 256 + get_or b 1 0) e in simp length-take (omega (arith, z)));
      eight = λ x. let z = ltb-false 8 (largest_of (arities b)) f in omega (arith, z, largest_le (arities b) x);
    }

pub length_blank : (n : ℕ) (l : List ℕ) → n ≤ length l → length (blank n l) ≡ length l
unfolding blank
length_blank n l h = simp (length-append, length-replicate, length-drop) (omega arith)

pub length_signed : (b sig : List ℕ) → bytes_length ≤ length b → length (signed b sig) ≡ length b
unfolding signed
length_signed b sig h = simp (length-sets, length-set) (length_blank bytes_length b h)

pub length_with_term : (b : List ℕ) (s : ℕ) (t : List ℕ) → length (with_term b s t) ≡ length b
unfolding with_term
length_with_term b s t = simp (length-sets, length-set)

-- the ways out of `signature`
module _ (b : List ℕ) (n : ℕ) (e : n ≡ get_or b 0 0 * 256 + get_or b 1 0) where
  pub sig_none : 256 < n → [] ≡ signature_of b
  unfolding signature_of
  sig_none h = rw (lt-ltb 256 (get_or b 0 0 * 256 + get_or b 1 0) (rw e at h))

  part : take (n + 2 - 2) (drop 2 b) ≡ arities b
  part = let z : n + 2 - 2 ≡ n = omega arith in rw (z, e)

  pub sig_bad : n ≤ 256 → (m : ℕ) → m ≡ largest_of (take (n + 2 - 2) (drop 2 b)) → 8 < m → [] ≡ signature_of b
  unfolding signature_of
  sig_bad h m f g =
      let l : 8 < largest_of (arities b) = rw (f, part) at g in
      rw (le-ltb 256 (get_or b 0 0 * 256 + get_or b 1 0) (rw e at h), lt-ltb 8 (largest_of (arities b)) l)

  pub sig_fine : n ≤ 256 → (m : ℕ) → m ≡ largest_of (take (n + 2 - 2) (drop 2 b)) → m ≤ 8 → take (n + 2 - 2) (drop 2 b) ≡ signature_of b
  unfolding signature_of
  sig_fine h m f g =
      let l : largest_of (arities b) ≤ 8 = rw (f, part) at g in
      rw (le-ltb 256 (get_or b 0 0 * 256 + get_or b 1 0) (rw e at h), le-ltb 8 (largest_of (arities b)) l) part

pub ruleset signature_ways = (sig_none, sig_bad, sig_fine)

pub term_part : (b : List ℕ) (s : ℕ) → let n = get_or b (lengths_start + s) 0 % 65 in let a = terms_start + 64 * s in
    (take (a + n - a) (drop a b) ≡ term_of b s) × (length (take (a + n - a) (drop a b)) ≤ 64)
unfolding term_of
term_part b s =
    let a = terms_start + 64 * s in let n = get_or b (lengths_start + s) 0 % 65 in
    let z : a + n - a ≡ n = omega arith in
    (rw z, rw z (simp length-take (omega arith)))

pub signed_is : (b sig c : List ℕ) → c ≡ blank bytes_length b → sets (set (set c 0 (length sig / 256)) 1 (length sig % 256)) 2 sig ≡ signed b sig
unfolding signed
signed_is b sig c e = rw e

-- what `clear` of `filling` says of a table of numbers
pub cleared : (n : ℕ) (old new : List ℕ) → (z : ℕ) × (z ≡ 0) × (new ≡ replicate n z ++ drop n old) → new ≡ blank n old
unfolding blank
cleared n old new (z, e, p) = p ∙ ap (λ x. replicate n x ++ drop n old) e

-- a part that was copied over
pub copied : (b v xs : List ℕ) (at k : ℕ) → k ≡ length v → at + length v ≤ length b → xs ≡ v → put_mid at k b xs ≡ sets b at v
copied b v xs at k e h f =
    let g : drop k (drop at b) ≡ drop (at + length v) b = rw e (drop-drop (length v) at b) in
    rw (f, g) (sym (append_assoc (take at b) v _)) ∙ sym (sets-eq v b at h)

pub in_use_small : (u : List ℕ) (s : ℕ) → is_used u s ≡ true → s < slot_count
unfolding is_used
in_use_small u s h = go (ltb s slot_count) refl h
  where
    go : (b : Bool) → ltb s slot_count ≡ b → pick b (eqb (has (used_of u) s) 1) false ≡ true → s < slot_count
    go true e p = ltb-true s slot_count e
    go false e p = absurd (let z : ◌≡◌ {A = ℕ} 0 1 = cc in omega arith)

used_8 : (ws : List ℕ) → length (used_of ws) ≡ 8
unfolding used_of words8
used_8 ws = refl

get_or_used : (ws : List ℕ) (i : ℕ) → i < 8 → get_or (used_of ws) i 0 ≡ get_or ws i 0
unfolding used_of
get_or_used ws i h = get_or_words8 _ i h

-- the slots in use, copied over the front
pub used_copied : (u ws xs : List ℕ) → 8 ≤ length u → length xs ≡ length (take 8 u) → xs ≡ ws → xs ++ drop 8 u ≡ sets u 0 (used_of ws)
used_copied u ws xs h l e =
    let n : length ws ≡ 8 = rw (← e) (l ∙ length-take-le 8 u h) in
    let s : ws ≡ used_of ws = same_number_lists ws (used_of ws) (n ∙ sym (used_8 ws)) (λ i b. sym (get_or_used ws i (omega (arith, n, b)))) in
    copied u (used_of ws) xs 0 8 (sym (used_8 ws)) (omega (arith, used_8 ws)) (e ∙ s)
