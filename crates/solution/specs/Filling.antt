-- Serves SCOPE.md, 'The solver's record': bytes written one after another at the start of a buffer.
use Rattle.std.specs.Prelude.{◌≡◌, refl, List, [], ◌∷◌, ◌++◌, ℕ, ◌+◌, ◌≤◌, length, drop, take, set}
use Rattle.std.proofs.Common.{sym, ap, ◌∙◌, append-nil, append_assoc, arith, length-append, take_at, drop_at, drop-drop}

-- w written at the start of out
abbrev pub front : List ℕ → List ℕ → List ℕ
front w out = w ++ drop (length w) out

-- two bytes at the start
pub front_two : (a b : ℕ) (out : List ℕ) → 2 ≤ length out → set (set out 0 a) 1 b ≡ front (a ∷ b ∷ []) out
front_two a b [] h = absurd (omega arith)
front_two a b (x ∷ []) h = absurd (omega arith)
front_two a b (x ∷ y ∷ out) h = refl

-- n bytes, w, were written there, and no other
abbrev pub Filled : List ℕ → List ℕ → List ℕ → ℕ → Type 0
Filled w out₀ out n = (n ≡ length w) × (out ≡ front w out₀)

-- R is what is left of T to write; `used` bytes of out₀ are overwritten
pub record Filling (T R out₀ out : List ℕ) (used : ℕ) : Type 0 where
  pub done : List ℕ
  pub len : used ≡ length done
  pub is : out ≡ done ++ drop used out₀
  pub whole : T ≡ done ++ R
  pub same : length out ≡ length out₀

pub fill_start : (T out : List ℕ) → Filling T T out out 0
fill_start T out = record { done = []; len = refl; is = refl; whole = refl; same = refl }

pub fill_room : (T R out₀ out : List ℕ) (used : ℕ) (w R' : List ℕ) → R ≡ w ++ R' → Filling T R out₀ out used → used + length w ≤ length T
fill_room T R out₀ out used w R' e h = omega (arith, h.len, ap length h.whole, length-append h.done R, ap length e, length-append w R')

pub fill_turn : (T R out₀ out : List ℕ) (used : ℕ) (w R' : List ℕ) → R ≡ w ++ R' → Filling T R out₀ out used
    → (out' : List ℕ) → length out' ≡ length out → out' ≡ take used out ++ front w (drop used out) → Filling T R' out₀ out' (used + length w)
fill_turn T R out₀ out used w R' re h out' sl e = record {
  done = h.done ++ w;
  len = omega (arith, h.len, length-append h.done w);
  is = e ∙ ap (λ (r : List ℕ). r ++ (w ++ drop (length w) (drop used out))) tk ∙ ap (λ (r : List ℕ). h.done ++ (w ++ drop (length w) r)) dr
      ∙ ap (λ (r : List ℕ). h.done ++ (w ++ r)) (drop-drop (length w) used out₀) ∙ sym (append_assoc h.done w (drop (used + length w) out₀));
  whole = h.whole ∙ ap (λ (r : List ℕ). h.done ++ r) re ∙ sym (append_assoc h.done w R');
  same = sl ∙ h.same;
}
  where
    tk : take used out ≡ h.done
    tk = ap (take used) h.is ∙ take_at h.done (drop used out₀) used (sym h.len)

    dr : drop used out ≡ drop used out₀
    dr = ap (drop used) h.is ∙ drop_at h.done (drop used out₀) used (sym h.len)

pub fill_end : (T R out₀ out : List ℕ) (used : ℕ) → R ≡ [] → Filling T R out₀ out used → Filled T out₀ out used
fill_end T R out₀ out used z h =
    let e : T ≡ h.done = h.whole ∙ ap (λ (r : List ℕ). h.done ++ r) z ∙ append-nil h.done in
    (h.len ∙ ap length (sym e), rw e (h.is ∙ ap (λ (k : ℕ). h.done ++ drop k out₀) h.len))
