-- Laws of text that is put into a line piece by piece.
use Prim.Native.Nat.{ℕ, zero, suc, ◌+◌, ◌-◌, ◌*◌, ◌/◌, ◌%◌, ◌≤◌, ◌<◌, min}
use mathlib.Core.Path.{◌≡◌, refl, sym, ap, ◌∙◌}
use mathlib.Core.List.{List, [], ◌∷◌, ◌++◌, append_assoc, append-nil}
use native.Mathlib.Omega.{arith}
use native.Mathlib.Nat.{add-zero}
use native.Mathlib.Numerals.{add-one}
use native.Mathlib.Decide.{dec_le, dec_lt}
use lib.ListN.{length, set, get_or, take, drop, length-append, drop_of_length-le}
use lib.Seq.{sets, sets-eq, length-sets, length-take-le, set_out, take-suc}
use borrow.Author.Tests.{lt-ltb, le-ltb}
use borrow.Rule.Slice.PartMut.{put_mid}
use Rattle.std.proofs.lemmas.List.{drop-drop, take-append-drop}
use Rattle.lines.specs.Lines.{Put, digits, decimal, hex, slot_list, figure, record_text}

-- nothing changes past the end
sets_out : (vs l : List ℕ) (i : ℕ) → length l ≤ i → sets l i vs ≡ l
sets_out [] l i h = refl
sets_out (v ∷ vs) l i h = rw (set_out l i v h) (sets_out vs l (suc i) (omega arith))

sets_append : (a b l : List ℕ) (i : ℕ) → sets l i (a ++ b) ≡ sets (sets l i a) (i + length a) b
sets_append [] b l i = rw add-zero
sets_append (v ∷ a) b l i = let e : i + suc (length a) ≡ suc i + length a = omega arith in rw e (sets_append a b (set l i v) (suc i))

-- no text
pub put_none : (l : List ℕ) (at : ℕ) → at ≤ length l → Put l l at [] at
put_none l at h = record { line_is = refl; next_is = omega arith }

-- one byte where there is room, and where there is none
pub put_one : (l : List ℕ) (at b : ℕ) → at < length l → Put l (set l at b) at (b ∷ []) (at + 1)
put_one l at b h = record { line_is = refl; next_is = omega arith }

pub put_full : (l : List ℕ) (at b : ℕ) → at ≤ length l → length l ≤ at → Put l l at (b ∷ []) at
put_full l at b h g = record { line_is = sym (set_out l at b g); next_is = omega arith }

-- what was put keeps the length, and the next place lies within
pub put_length : {l m : List ℕ} {at r : ℕ} {a : List ℕ} → Put l m at a r → length m ≡ length l
put_length {l} {m} {at} {r} {a} p = ap length p.line_is ∙ length-sets l at a

pub put_within : {l m : List ℕ} {at r : ℕ} {a : List ℕ} → Put l m at a r → r ≤ length m
put_within {l} {m} {at} {r} {a} p = omega (arith, p.next_is, put_length p)

-- one text after another
pub put_then : {l m n : List ℕ} {at r s : ℕ} {a b : List ℕ} → Put l m at a r → Put m n r b s → Put l n at (a ++ b) s
put_then {l} {m} {n} {at} {r} {s} {a} {b} p q = go (dec_le (at + length a) (length l))
  where
    last : s ≡ min (at + length (a ++ b)) (length l)
    last = omega (arith, p.next_is, q.next_is, put_length p, length-append a b)

    go : Dec (at + length a ≤ length l) → Put l n at (a ++ b) s
    go (yes h) =
        let e : r ≡ at + length a = omega (arith, p.next_is) in
        record { line_is = q.line_is ∙ rw (e, p.line_is) (sym (sets_append a b l at)); next_is = last }
    go (no h) =
        let e : length m ≤ r = omega (arith, p.next_is, put_length p) in
        let f : length (sets l at a) ≤ at + length a = omega (arith, length-sets l at a) in
        record { line_is = q.line_is ∙ (sets_out b m r e ∙ (p.line_is ∙ (sym (sets_out b (sets l at a) (at + length a) f) ∙ sym (sets_append a b l at)))); next_is = last }

-- as much of a text as there is room for, copied over a part of the line
pub put_part : (l t xs : List ℕ) (at n k : ℕ) → at ≤ length l → n ≡ min (length t) (length l - at) → k ≡ n → xs ≡ take n t → Put l (put_mid at k l xs) at t (at + n)
put_part l t xs at n k h e f g = record { line_is = copied ∙ sym all; next_is = omega (arith, e) }
  where
    few : length (take n t) ≡ n
    few = length-take-le n t (omega (arith, e))

    copied : put_mid at k l xs ≡ sets l at (take n t)
    copied =
        let d : drop k (drop at l) ≡ drop (at + length (take n t)) l = rw (f, few) (drop-drop n at l) in
        rw (g, d) (sym (append_assoc (take at l) (take n t) _)) ∙ sym (sets-eq (take n t) l at (omega (arith, few, e)))

    rest : Dec (length t ≤ n) → sets (sets l at (take n t)) (at + length (take n t)) (drop n t) ≡ sets l at (take n t)
    rest (yes z) = let d : drop n t ≡ [] = drop_of_length-le t {i = n} z in rw d
    rest (no z) = sets_out (drop n t) (sets l at (take n t)) (at + length (take n t)) (omega (arith, few, e, length-sets l at (take n t)))

    all : sets l at t ≡ sets l at (take n t)
    all = ap (sets l at) (sym (take-append-drop n t)) ∙ sets_append (take n t) (drop n t) l at ∙ rest (dec_le (length t) n)

-- the hex of two texts, one after another
hex_append : (a b : List ℕ) → hex (a ++ b) ≡ hex a ++ hex b
unfolding hex
hex_append [] b = refl
hex_append (x ∷ a) b = rw (hex_append a b)

pub hex_turn : {l m n : List ℕ} {at r s : ℕ} (t : List ℕ) (i : ℕ) → i < length t → Put l m at (hex (take i t)) r → Put m n r (hex (get_or t i 0 ∷ [])) s → Put l n at (hex (take (i + 1) t)) s
hex_turn t i h p q = rw (add-one, take-suc t i 0 h, hex_append) (put_then p q)

-- the digits do not depend on how many there may be
digits_enough : (j k n : ℕ) → n < j → n < k → digits j n ≡ digits k n
unfolding digits
digits_enough zero k n h g = absurd (omega arith)
digits_enough (suc j) zero n h g = absurd (omega arith)
digits_enough (suc j) (suc k) n h g = go (dec_lt n 10) (digits_enough j k (n / 10))
  where
    go : Dec (n < 10) → (n / 10 < j → n / 10 < k → digits j (n / 10) ≡ digits k (n / 10)) → digits (suc j) n ≡ digits (suc k) n
    go (yes e) r = rw (lt-ltb n 10 e)
    go (no e) r = rw (r (omega arith) (omega arith))

-- a number of one digit, and one of more
pub decimal_one : (n : ℕ) → n < 10 → decimal n ≡ (48 + n % 10) ∷ []
unfolding decimal digits
decimal_one n h = rw (lt-ltb n 10 h)

pub decimal_more : (n : ℕ) → 10 ≤ n → decimal n ≡ decimal (n / 10) ++ ((48 + n % 10) ∷ [])
unfolding decimal digits
decimal_more n h = rw (le-ltb n 10 h, digits_enough n (suc (n / 10)) (n / 10) (omega arith) (omega arith))

-- text after a text of three parts
pub put_after : {l m n : List ℕ} {at r s : ℕ} (a b k : List ℕ) {d : List ℕ} → Put l m at (a ++ (b ++ k)) r → Put m n r d s → Put l n at (a ++ (b ++ (k ++ d))) s
put_after a b k {d} p q =
    let e : (a ++ (b ++ k)) ++ d ≡ a ++ (b ++ (k ++ d)) = simp append_assoc in
    rw e at (put_then p q)

-- the first slot of a listing, and a listing with none
slots_first : (p l : List ℕ) → length p ≡ 2 → slot_list (p ++ l) ≡ figure (get_or p 0 0 * 256 + get_or p 1 0) ++ slot_list l
unfolding slot_list
slots_first [] l h = absurd (omega arith)
slots_first (x ∷ []) l h = absurd (omega arith)
slots_first (x ∷ y ∷ []) l h = refl
slots_first (x ∷ y ∷ z ∷ p) l h = absurd (omega arith)

slots_none : (l : List ℕ) → length l < 2 → slot_list l ≡ []
unfolding slot_list
slots_none [] h = refl
slots_none (x ∷ []) h = refl
slots_none (x ∷ y ∷ l) h = absurd (omega arith)

-- the slots put so far, and those of the rest, are the listing's
pub record Listing (line₀ line : List ℕ) (at next : ℕ) (all rest : List ℕ) : Type 0 where
  pub done : List ℕ
  pub all_is : slot_list all ≡ done ++ slot_list rest
  pub put : Put line₀ line at done next

pub listing_start : (l t rest : List ℕ) (at : ℕ) → at ≤ length l → rest ≡ t → Listing l l at at t rest
listing_start l t rest at h e = record { done = []; all_is = ap slot_list (sym e); put = put_none l at h }

pub listing_turn : {l m n : List ℕ} {at r s : ℕ} {t rest : List ℕ} (p left : List ℕ) → length p ≡ 2 → rest ≡ p ++ left → Listing l m at r t rest → Put m n r (figure (get_or p 0 0 * 256 + get_or p 1 0)) s → Listing l n at s t left
listing_turn {rest = rest} p left h e g q =
    let x = get_or p 0 0 * 256 + get_or p 1 0 in
    let f : slot_list rest ≡ figure x ++ slot_list left = rw e (slots_first p left h) in
    record {
      done = g.done ++ figure x;
      all_is = g.all_is ∙ (rw f (sym (append_assoc g.done (figure x) (slot_list left))));
      put = put_then g.put q;
    }

pub listing_end : {l m : List ℕ} {at r : ℕ} {t rest : List ℕ} → length rest < 2 → Listing l m at r t rest → Put l m at (slot_list t) r
listing_end {rest = rest} h g =
    let e : slot_list _ ≡ g.done = g.all_is ∙ (rw (slots_none rest h) (append-nil g.done)) in
    rw e g.put

-- a record that has no bytes, and one that has
pub record_none : (l t : List ℕ) (at : ℕ) → at ≤ length l → length t ≡ 0 → Put l l at (record_text t) at
unfolding record_text
record_none l [] at b h = put_none l at b
record_none l (x ∷ t) at b h = absurd (omega arith)

pub record_some : (l m n t : List ℕ) (at r s : ℕ) → 0 < length t → Put l m at (32 ∷ []) r → Put m n r (hex t) s → Put l n at (record_text t) s
unfolding record_text
record_some l m n [] at r s h p q = absurd (omega arith)
record_some l m n (x ∷ t) at r s h p q = put_then p q
