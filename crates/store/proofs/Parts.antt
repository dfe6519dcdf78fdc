-- What the parts of the store leave, over plain lists.
use Prim.Native.Nat.{ℕ, zero, suc, ◌+◌, ◌/◌, ◌%◌, ◌≤◌}
use mathlib.Core.Path.{◌≡◌, refl, sym, ap, ◌∙◌}
use mathlib.Core.List.{List, [], ◌∷◌, map}
use mathlib.Core.Bool.{Bool, true, false}
use native.Mathlib.Omega.{arith}
use lib.Dec.{ltb, eqb}
use lib.ListN.{length, get_or, take, drop, replicate, length-map, length-take}
use lib.Seq.{sets, sets-eq, length-sets, take_at, take-append-le, length-take-le}
use Rattle.laws.specs.Choice.{pick}
use Rattle.keys.specs.Keys.{end_of}
use Rattle.terms.specs.Terms.{numbers, refusal}
use Rattle.terms.proofs.TermLaws.{length_numbers}
use Rattle.chains.specs.Chains.{longer}
use Rattle.layout.specs.Layout.{signature_of, term_of, Long}
use Rattle.paths.specs.Ups.{ups_f}
use Rattle.paths.specs.Locate.{missing}
use Rattle.termkeys.specs.Fill.{Sized, fill, del_fill}
use Rattle.store.specs.Tables.{ups_of, ends_of, Outlined, no_numbers, located, KeysIn, room_for, without_keys, without_term}
use Rattle.laws.specs.Sizes.{free_head, key_limit}
use Rattle.terms.specs.Terms.{arity}

-- tables that are long enough, for the functions over the keys
pub sized : (b u : ℕ) (link label s0 s1 s2 s3 : List ℕ) → Long b u (length label) (length link) (length s0) (length s1) (length s2) (length s3) → Sized link label s0 s1 s2 s3
sized b u link label s0 s1 s2 s3 L = record { links = L.links; labels = L.labels; l0 = L.l0; l1 = L.l1; l2 = L.l2; l3 = L.l3 }

front_all : (l vs : List ℕ) (n : ℕ) → length vs ≡ n → n ≤ length l → take n (sets l 0 vs) ≡ vs
front_all l vs n e h = let s = sets-eq vs l 0 (omega arith) in rw s (take_at vs (drop (0 + length vs) l) n e)

front_part : (l vs : List ℕ) (n : ℕ) → n ≤ length vs → length vs ≤ length l → take n (sets l 0 vs) ≡ take n vs
front_part l vs n e h = let s = sets-eq vs l 0 (omega arith) in rw s (take-append-le n vs (drop (0 + length vs) l) e)

-- the outline, from what its three parts wrote
pub outlined : (sig t items₀ items ends₀ ends ups : List ℕ) (n m : ℕ) → length t ≤ 64 → length items₀ ≡ 32 → length ends₀ ≡ 32 → length ups ≡ 32
    → n ≡ length t / 2 → items ≡ sets items₀ 0 (numbers t) → ends ≡ sets ends₀ 0 (map end_of (take n items))
    → m ≤ length (take n items) → take m ups ≡ ups_f (λ x. arity sig x) 0 (0 ∷ []) (take n items) → Outlined sig t m ups ends
unfolding ups_of ends_of
outlined sig t items₀ items ends₀ ends ups n m h l0 l1 l2 e f g k u =
    let q : take n items ≡ numbers t = rw f (front_all items₀ (numbers t) n (length_numbers t ∙ sym e) (omega arith)) in
    let ln = length_numbers t in
    let k' : m ≤ length (numbers t) = rw q at k in
    let u' : take m ups ≡ ups_f (λ x. arity sig x) 0 (0 ∷ []) (numbers t) = rw q at u in
    let c : m ≡ length (ups_f (λ x. arity sig x) 0 (0 ∷ []) (numbers t)) = sym (length-take-le m ups (omega (arith, k', ln))) ∙ ap length u' in
    let lm = length-map (numbers t) end_of in
    record {
      few = omega (arith, k', ln);
      room = (l2, rw (g, length-sets) l1);
      many = c;
      hang = u';
      stand = rw (← c, g, q) (front_part ends₀ (map end_of (numbers t)) m (omega (arith, lm, k')) (omega (arith, lm, ln)));
    }

-- a chain of n keys is one of m, where m is at most n
pub longer_less : (link : List ℕ) (m n x : ℕ) → m ≤ n → longer link n x ≡ true → longer link m x ≡ true
unfolding longer
longer_less link zero n x h e = refl
longer_less link (suc m) zero x h e = absurd (omega arith)
longer_less link (suc m) (suc n) zero h e = e
longer_less link (suc m) (suc n) (suc k) h e = longer_less link m n (get_or link (k % key_limit) 0) (omega arith) e

pub missing_le : (ks : List ℕ) → missing ks ≤ length ks
unfolding missing
missing_le [] = omega arith
missing_le (k ∷ ks) = go (ltb k key_limit) (missing_le ks)
  where
    go : (b : Bool) → missing ks ≤ length ks → pick b (missing ks) (suc (missing ks)) ≤ suc (length ks)
    go true h = omega arith
    go false h = omega arith

-- where a key is free for each item there is room
pub room_early : (link label us es : List ℕ) (n : ℕ) (r : Bool) → length us ≡ n → r ≡ longer link n (get_or link free_head 0) → r ≡ true → true ≡ room_for link label us es
unfolding room_for
room_early link label us es n r l e h =
    let ks = take (length us) (located link label us es) in
    sym (longer_less link (missing ks) n (get_or link free_head 0) (omega (arith, missing_le ks, length-take (length us) (located link label us es))) (sym e ∙ h))

pub room_late : (link label us es ks : List ℕ) (n m : ℕ) (r : Bool) → length us ≡ n → ks ≡ located link label us es → m ≡ missing (take n ks) → r ≡ longer link m (get_or link free_head 0) → r ≡ room_for link label us es
unfolding room_for
room_late link label us es ks n m r l e f g = rw (g, f, e, l)

pub none_room : (ks : List ℕ) → ks ≡ no_numbers → length ks ≡ 32
unfolding no_numbers
none_room ks e = rw e

pub none_are : replicate 32 0 ≡ no_numbers
unfolding no_numbers
none_are = refl

pub numbers_are : (link label us es ks ns : List ℕ) → ns ≡ no_numbers → ks ≡ fill link label ns 0 us es → ks ≡ located link label us es
unfolding located
numbers_are link label us es ks ns n e = rw (e, n)

-- the keys of the term in a slot, where it is none and where it is one
module _ (b sig t link label : List ℕ) (s : ℕ) (r : Bool) (e : sig ≡ signature_of b) (f : t ≡ term_of b s) (g : r ≡ eqb (refusal sig t) 0) where
  pub keys_none : (ks : List ℕ) → r ≡ false → KeysIn b link label s 0 ks
  unfolding without_term del_fill
  keys_none ks h =
      let q : eqb (refusal (signature_of b) (term_of b s)) 0 ≡ false = rw (e, f) at (sym g ∙ h) in
      record { few = omega arith; drops = λ σ x y. rw q }

  pub keys_some : (us es ks : List ℕ) (n m : ℕ) → r ≡ true → Outlined sig t n us es → (m ≡ n) × (ks ≡ located link label (take n us) (take n es)) → KeysIn b link label s m ks
  unfolding without_term without_keys
  keys_some us es ks n m h o k =
      let q : eqb (refusal (signature_of b) (term_of b s)) 0 ≡ true = rw (e, f) at (sym g ∙ h) in
      record {
        few = omega (arith, k.0, o.few);
        drops = λ σ x y. rw (q, ← e, ← f, ← o.many, ← o.hang, ← o.stand, x, y, k.0, k.1);
      }
