-- SCOPE.md, 'Paths and keys' and refusal 9: which bytes are a key, in the document's words, and that `is_key` tells
-- them.
use Rattle.std.specs.Prelude.{ℕ, zero, suc, ◌+◌, ◌*◌, ◌≤◌, ◌<◌, ◌≡◌, refl, ◌⊎◌, Bool, true, false, List, [], ◌∷◌, length, get_or}
use Rattle.std.proofs.Math.Decide.{dec_lt, dec_le, ℕ_discrete}
use Rattle.std.proofs.Common.{arith, inl, inr, ⊎_elim, lt-ltb, le-ltb, le-leb, eq-eqb, ne_eqb}
use Rattle.std.proofs.lemmas.Bool.{lt-leb}
use Rattle.laws.specs.Members.{In}
use Rattle.terms.specs.Terms.{Signed, refusal}
use Rattle.keys.specs.Keys.{Key}
use Rattle.keys.specs.Bytes.{step_good, end_good, steps_good, is_key}
use Rattle.theory.specs.Relations.{Decided, decided_yes, decided_no}
use Rattle.definitions.specs.Trees.{keys_of}
use Rattle.definitions.specs.KeyBytes.{key_bytes, term_keys}
use Rattle.terms.specs.Terms.{arity}

-- the two bytes from 3 j on: the symbol of step j (from 0), or the end behind the last step; and the byte behind them
abbrev pub symbol_at : List ℕ → ℕ → ℕ
symbol_at k j = get_or k (3 * j) 0 * 256 + get_or k (3 * j + 1) 0

abbrev pub argument_at : List ℕ → ℕ → ℕ
argument_at k j = get_or k (3 * j + 2) 0

-- a step: a declared symbol, and an argument number that is not 0 and not above its arity
abbrev pub KeyStep : List ℕ → ℕ → ℕ → Type 0
KeyStep sig f i = (f < length sig) × (i ≡ 0 → ⊥) × (i ≤ arity sig f)

-- an end: a declared symbol or the star
abbrev pub End : List ℕ → ℕ → Type 0
End sig e = (e < length sig) ⊎ (e ≡ 65535)

-- 'steps of three bytes (symbol item, argument number) and then two bytes, a symbol or 0xFFFF for the star'
pub record Steps (sig k : List ℕ) : Type 0 where
  pub number : ℕ
  pub long : length k ≡ 3 * number + 2
  pub each : (j : ℕ) → j < number → KeyStep sig (symbol_at k j) (argument_at k j)
  pub end : End sig (symbol_at k number)

-- 'as bytes a key is 0 to 31 steps'
pub record IsKey (sig k : List ℕ) : Type 0 where
  pub steps : Steps sig k
  pub few : steps.number ≤ 31

-- a test with what it tells
abbrev TestTold : Bool → Type 0 → Type 0
TestTold b P = ((b ≡ true) × P) ⊎ ((b ≡ false) × (P → ⊥))

step_told : (sig : List ℕ) (f i : ℕ) → TestTold (step_good sig f i) (KeyStep sig f i)
unfolding step_good
step_told sig f i = go (dec_lt f (length sig)) (ℕ_discrete i 0) (dec_le i (arity sig f))
  where
    go : Dec (f < length sig) → Dec (i ≡ 0) → Dec (i ≤ arity sig f) → TestTold (step_good sig f i) (KeyStep sig f i)
    go (no n) b c = let m : length sig ≤ f = omega arith in inr (rw (le-ltb f (length sig) m), λ s. n s.0)
    go (yes h) (yes z) c = inr (rw (lt-ltb f (length sig) h, eq-eqb i 0 z), λ s. s.1 z)
    go (yes h) (no z) (yes l) = inl (rw (lt-ltb f (length sig) h, ne_eqb i 0 z, le-leb i (arity sig f) l), (h, z, l))
    go (yes h) (no z) (no n) = let m : arity sig f < i = omega arith in inr (rw (lt-ltb f (length sig) h, ne_eqb i 0 z, lt-leb i (arity sig f) m), λ s. n s.2)

end_told : (sig : List ℕ) (e : ℕ) → TestTold (end_good sig e) (End sig e)
unfolding end_good
end_told sig e = go (dec_lt e (length sig)) (ℕ_discrete e 65535)
  where
    go : Dec (e < length sig) → Dec (e ≡ 65535) → TestTold (end_good sig e) (End sig e)
    go (yes h) d = inl (rw (lt-ltb e (length sig) h), inl h)
    go (no n) (yes q) = let m : length sig ≤ e = omega arith in inl (rw (le-ltb e (length sig) m, eq-eqb e 65535 q), inr q)
    go (no n) (no q) = let m : length sig ≤ e = omega arith in inr (rw (le-ltb e (length sig) m, ne_eqb e 65535 q), ⊎_elim n q)

-- one step more in front, and one less
module _ (sig : List ℕ) (h l i : ℕ) (r : List ℕ) where
  steps_more : KeyStep sig (h * 256 + l) i → Steps sig r → Steps sig (h ∷ l ∷ i ∷ r)
  steps_more s w = record { number = suc w.number; long = (let e = w.long in omega (arith, e)); each = each; end = end }
    where
      each : (j : ℕ) → j < suc w.number → KeyStep sig (symbol_at (h ∷ l ∷ i ∷ r) j) (argument_at (h ∷ l ∷ i ∷ r) j)
      each zero b = s
      each (suc j) b =
          let p : 3 * suc j ≡ suc (suc (suc (3 * j))) = omega arith in
          let q : suc (suc (suc (3 * j))) + 1 ≡ suc (suc (suc (3 * j + 1))) = omega arith in
          let o : suc (suc (suc (3 * j))) + 2 ≡ suc (suc (suc (3 * j + 2))) = omega arith in
          rw (p, q, o) (w.each j (omega arith))

      end : End sig (symbol_at (h ∷ l ∷ i ∷ r) (suc w.number))
      end =
          let p : 3 * suc w.number ≡ suc (suc (suc (3 * w.number))) = omega arith in
          let q : suc (suc (suc (3 * w.number))) + 1 ≡ suc (suc (suc (3 * w.number + 1))) = omega arith in
          rw (p, q) w.end

  steps_less : Steps sig (h ∷ l ∷ i ∷ r) → KeyStep sig (h * 256 + l) i × Steps sig r
  steps_less w = go w.number w.long w.each w.end
    where
      go : (n : ℕ) → length (h ∷ l ∷ i ∷ r) ≡ 3 * n + 2
          → ((j : ℕ) → j < n → KeyStep sig (symbol_at (h ∷ l ∷ i ∷ r) j) (argument_at (h ∷ l ∷ i ∷ r) j))
          → End sig (symbol_at (h ∷ l ∷ i ∷ r) n)
          → KeyStep sig (h * 256 + l) i × Steps sig r
      go zero e f d = absurd (omega (arith, e))
      go (suc n) e f d = (f 0 (omega arith), record { number = n; long = omega (arith, e); each = each; end = end })
        where
          each : (j : ℕ) → j < n → KeyStep sig (symbol_at r j) (argument_at r j)
          each j b =
              let p : 3 * suc j ≡ suc (suc (suc (3 * j))) = omega arith in
              let q : suc (suc (suc (3 * j))) + 1 ≡ suc (suc (suc (3 * j + 1))) = omega arith in
              let o : suc (suc (suc (3 * j))) + 2 ≡ suc (suc (suc (3 * j + 2))) = omega arith in
              rw (p, q, o) at (f (suc j) (omega arith))

          end : End sig (symbol_at r n)
          end =
              let p : 3 * suc n ≡ suc (suc (suc (3 * n))) = omega arith in
              let q : suc (suc (suc (3 * n))) + 1 ≡ suc (suc (suc (3 * n + 1))) = omega arith in
              rw (p, q) at d

steps_told : (sig k : List ℕ) → TestTold (steps_good sig k) (Steps sig k)
unfolding steps_good
steps_told sig [] = inr (refl, λ w. let e = w.long in omega (arith, e))
steps_told sig (h ∷ []) = inr (refl, λ w. let e = w.long in omega (arith, e))
steps_told sig (h ∷ l ∷ []) = go (end_told sig (h * 256 + l))
  where
    last : Steps sig (h ∷ l ∷ []) → End sig (h * 256 + l)
    last w = let e = w.long in let z : w.number ≡ 0 = omega (arith, e) in let d = w.end in rw z at d

    go : TestTold (end_good sig (h * 256 + l)) (End sig (h * 256 + l))
        → TestTold (end_good sig (h * 256 + l)) (Steps sig (h ∷ l ∷ []))
    go (inl a) = inl (a.0, record { number = 0; long = refl; each = λ j b. absurd (omega (arith, b)); end = a.1 })
    go (inr a) = inr (a.0, λ w. a.1 (last w))
steps_told sig (h ∷ l ∷ i ∷ r) = go (step_told sig (h * 256 + l) i) (steps_told sig r)
  where
    go : TestTold (step_good sig (h * 256 + l) i) (KeyStep sig (h * 256 + l) i) → TestTold (steps_good sig r) (Steps sig r)
        → TestTold (steps_good sig (h ∷ l ∷ i ∷ r)) (Steps sig (h ∷ l ∷ i ∷ r))
    go (inl a) (inl b) = inl (rw a.0 b.0, steps_more sig h l i r a.1 b.1)
    go (inl a) (inr b) = inr (rw a.0 b.0, λ w. b.1 (steps_less sig h l i r w).1)
    go (inr a) b = inr (rw a.0, λ w. a.1 (steps_less sig h l i r w).0)

-- `is_key`, which refusal 9 asks, tells the bytes that are a key
pub key_decided : (sig k : List ℕ) → Decided (is_key sig k) (IsKey sig k)
unfolding is_key
key_decided sig k = go (dec_lt 95 (length k)) (steps_told sig k)
  where
    go : Dec (95 < length k) → TestTold (steps_good sig k) (Steps sig k) → Decided (is_key sig k) (IsKey sig k)
    go (yes h) d = rw (lt-ltb 95 (length k) h) (decided_no (λ w. let e = w.steps.long in let f = w.few in omega (arith, e, f, h)))
    go (no n) (inl d) = let m : length k ≤ 95 = omega arith in
        rw (le-ltb 95 (length k) m, d.0) (decided_yes (record { steps = d.1; few = (let e = d.1.long in omega (arith, e, m)) }))
    go (no n) (inr d) = let m : length k ≤ 95 = omega arith in rw (le-ltb 95 (length k) m, d.0) (decided_no (λ w. d.1 w.steps))

-- each key of a checked term is such bytes
pub term_is_key : (sig : List ℕ) → Signed sig → (t : List ℕ) → refusal sig t ≡ 0 → (K : Key) → In K (keys_of sig t)
    → IsKey sig (key_bytes K)
term_is_key sig g t h K i = (key_decided sig (key_bytes K)).holds (term_keys sig g t h K i).0
