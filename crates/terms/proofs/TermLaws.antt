use Prim.Native.Nat.{ℕ, zero, suc, ◌+◌, ◌-◌, ◌*◌, ◌≤◌, ◌<◌, min, ◌/◌, ◌%◌}
use mathlib.Core.Path.{◌≡◌, refl, sym, ap, ◌∙◌}
use mathlib.Core.Logic.{◌⊎◌, inl, inr, ⊎_elim}
use mathlib.Core.List.{List, [], ◌∷◌}
use lib.ListN.{length, get_or, take, drop, length-drop, drop_of_length-le, get_or-eq_default}
use lib.Seq.{drop-nil, drop-drop}
use native.Mathlib.Nat.{add_assoc, zero-add, suc-add}
use native.Mathlib.Omega.{arith}
use Rattle.terms.specs.Terms.{numbers, span, declared, items_good, arities_good, sig_refusal, Signed, refusal, first_item, arg_refusal, item_at}
use Rattle.laws.specs.Choice.{pick}
use Rattle.laws.proofs.Lists.{tail_part}
use mathlib.Core.Bool.{Bool, true, false, ◌&&◌}
use Rattle.std.specs.Prelude.{Ok, Option, Some, None, unwrap_or, IsSome}
use Rattle.std.proofs.Common.{rules}
use lib.Dec.{ltb, leb, eqb}
use Rattle.refusals.specs.Refusals.{Checked, checked_number}
use borrow.Author.Tests.{leb-true, le-leb, lt-leb, ltb-false, eqb-true, eqb-false, eq-eqb, ne_eqb, le-ltb, lt-ltb}
use lib.Seq.{get_or-drop}
use native.Mathlib.Decide.{ℕ_discrete}
use Rattle.laws.specs.Sizes.{variable_base, variable_end}
use Rattle.terms.specs.Terms.{arity}

pub span_short : (sig t : List ℕ) (k : ℕ) → length t < 2 → span sig t k ≡ 2 * k
unfolding span
span_short sig [] k h = refl
span_short sig (x ∷ []) k h = refl
span_short sig (x ∷ y ∷ r) k h = absurd (omega arith)

pub span_head : (sig t : List ℕ) (k : ℕ) → 2 ≤ length t
    → span sig t (suc k) ≡ 2 + span sig (drop 2 t) (arity sig (get_or t 0 0 * 256 + get_or t 1 0) + k)
unfolding span
span_head sig [] k h = absurd (omega arith)
span_head sig (x ∷ []) k h = absurd (omega arith)
span_head sig (x ∷ y ∷ r) k h = refl

pub span_pos : (sig t : List ℕ) → 2 ≤ span sig t 1
unfolding span
span_pos sig [] = omega arith
span_pos sig (x ∷ []) = omega arith
span_pos sig (x ∷ y ∷ r) = omega arith

pub span_zero : (sig t : List ℕ) → span sig t 0 ≡ 0
unfolding span
span_zero sig [] = refl
span_zero sig (x ∷ []) = refl
span_zero sig (x ∷ y ∷ r) = refl

two_drop : (x y n : ℕ) (r : List ℕ) → drop (2 + n) (x ∷ y ∷ r) ≡ drop n r
two_drop x y n r = let e : 2 + n ≡ suc (suc n) = omega arith in rw e

pub span_add : (sig t : List ℕ) (a b : ℕ) → span sig t (a + b) ≡ span sig t a + span sig (drop (span sig t a) t) b
unfolding span
span_add sig [] a b = rw drop-nil (omega arith)
span_add sig (x ∷ []) zero b = omega arith
span_add sig (x ∷ []) (suc a) b =
    let e : drop (2 * suc a) (x ∷ []) ≡ [] = drop_of_length-le (x ∷ []) {i = 2 * suc a} (omega arith) in
    rw e (omega arith)
span_add sig (x ∷ y ∷ r) zero b = simp zero-add
span_add sig (x ∷ y ∷ r) (suc a) b =
    let A = arity sig (x * 256 + y) in
    let ih : span sig r (A + a + b) ≡ span sig r (A + a) + span sig (drop (span sig r (A + a)) r) b = span_add sig r (A + a) b in
    rw (suc-add, ← add_assoc, two_drop) (omega arith)

-- a walk that ends within the bytes has an answer
pub ended : (r : Option ℕ) (m : ℕ) → unwrap_or r (m + 1) ≤ m → IsSome r
ended (Some n) m h = search rules
ended None m h = absurd (omega (arith, h))

-- one turn of the walk over the arguments
module _ (sig t : List ℕ) (T used a i n : ℕ) (ia : i < a) (ul : used ≤ length t)
    (ne : n ≡ min (span sig (take (length t - used) (drop used t)) 1) (length (take (length t - used) (drop used t)) + 1))
    (inv : T ≡ used + span sig (drop used t) (a - i)) where
  rest_length : length (take (length t - used) (drop used t)) ≡ length t - used
  rest_length = rw tail_part (length-drop used t)

  turn_split : T ≡ used + (span sig (drop used t) 1 + span sig (drop (span sig (drop used t) 1) (drop used t)) (a - (i + 1)))
  turn_split =
      let e : a - i ≡ 1 + (a - (i + 1)) = omega arith in
      let f = rw e at inv in
      rw span_add at f

  pub turn_short : length (take (length t - used) (drop used t)) < n → length t < T
  turn_short h = let m = rw tail_part at ne in omega (arith, m, turn_split, rest_length, length-drop used t)

  pub turn_more : n ≤ length (take (length t - used) (drop used t))
      → (used + n ≤ length t) × (T ≡ used + n + span sig (drop (used + n) t) (a - (i + 1)))
  turn_more h =
      let m = rw tail_part at ne in
      let e : span sig (drop used t) 1 ≡ n = omega (arith, m, rest_length, length-drop used t) in
      let f = rw (e, drop-drop) at turn_split in
      (omega (arith, rest_length), omega (arith, f))

  pub turn_in : T ≤ length t → (used + n ≤ length t) × (T ≡ used + n + span sig (drop (used + n) t) (a - (i + 1)))
  turn_in h =
      let m = rw tail_part at ne in
      turn_more (omega (arith, m, turn_split, rest_length, length-drop used t))

  pub turn_ends : (r : Option ℕ) → n ≡ unwrap_or r (length (take (length t - used) (drop used t)) + 1) → T ≤ length t → IsSome r
  turn_ends r e h = ended r (length (take (length t - used) (drop used t))) (omega (arith, (turn_in h).0, rest_length, length-drop used t, e))

pub items_step : (n : ℕ) (t : List ℕ) → 2 ≤ length t
    → items_good n t ≡ pick (declared n (get_or t 0 0 * 256 + get_or t 1 0)) (items_good n (drop 2 t)) false
unfolding items_good
items_step n [] h = absurd (omega arith)
items_step n (x ∷ []) h = absurd (omega arith)
items_step n (x ∷ y ∷ r) h = refl

pub items_short : (n : ℕ) (t : List ℕ) → length t < 2 → items_good n t ≡ true
unfolding items_good
items_short n [] h = refl
items_short n (x ∷ []) h = refl
items_short n (x ∷ y ∷ r) h = absurd (omega arith)

pub pick_and : (b c : Bool) → pick b c false ≡ (b && c)
pick_and true c = refl
pick_and false c = refl

pub arities_none : arities_good [] ≡ true
unfolding arities_good
arities_none = refl

pub arities_more : (a : ℕ) (s : List ℕ) → arities_good (a ∷ s) ≡ (leb a 8 && arities_good s)
unfolding arities_good
arities_more a s = pick_and (leb a 8) (arities_good s)

-- a test whose refusal was not given
past : (b : Bool) (n x : ℕ) → pick b (suc n) x ≡ 0 → (b ≡ false) × (x ≡ 0)
past true n x h = absurd (omega arith)
past false n x h = (refl, h)

taken : (b : Bool) (n x : ℕ) → pick b x (suc n) ≡ 0 → (b ≡ true) × (x ≡ 0)
taken true n x h = (refl, h)
taken false n x h = absurd (omega arith)

pub record Good (sig t : List ℕ) : Type 0 where
  pub long : 2 ≤ length t
  pub short : length t ≤ 64
  pub symbols : items_good (length sig) t ≡ true
  pub shape : span sig t 1 ≡ length t

pub good : (sig t : List ℕ) → refusal sig t ≡ 0 → Good sig t
unfolding refusal
good sig t h =
    let a = past (ltb 64 (length t)) 4 _ h in
    let b = past (eqb (length t) 0) 5 _ a.1 in
    let c = past (eqb (length t % 2) 1) 5 _ b.1 in
    let d = taken (items_good (length sig) t) 6 _ c.1 in
    let e = taken (eqb (span sig t 1) (length t)) 7 _ d.1 in
    let x : length t ≡ 0 → ⊥ = eqb-false _ _ b.0 in
    let y : length t % 2 ≡ 1 → ⊥ = eqb-false _ _ c.0 in
    record { long = omega arith; short = ltb-false _ _ a.0; symbols = d.0; shape = eqb-true _ _ e.0 }

-- the arguments before argument i, and argument i, lie within the term
pub args_within : (sig t : List ℕ) (k : ℕ) → Good sig t → k ≤ arity sig (first_item t) → 2 + span sig (drop 2 t) k ≤ length t
args_within sig t k g h =
    let A = arity sig (first_item t) in
    let s = span_head sig t 0 g.long in
    let e : A + 0 ≡ k + (A - k) = omega arith in
    let f = span_add sig (drop 2 t) k (A - k) in
    let s2 = rw e at s in
    omega (arith, g.shape, s2, f)

pub arg_none : (sig t : List ℕ) (i : ℕ) → arg_refusal sig t i ≡ 0 → Good sig t × (1 ≤ i) × (i ≤ arity sig (first_item t))
unfolding arg_refusal
arg_none sig t i h = go (refusal sig t) refl h
  where
    go : (r : ℕ) → refusal sig t ≡ r → pick (eqb r 0) (pick (eqb i 0) 10 (pick (ltb (arity sig (first_item t)) i) 10 0)) r ≡ 0 → Good sig t × (1 ≤ i) × (i ≤ arity sig (first_item t))
    go zero e g =
        let a = past (eqb i 0) 9 _ g in
        let b = past (ltb (arity sig (first_item t)) i) 9 _ a.1 in
        let x : i ≡ 0 → ⊥ = eqb-false _ _ a.0 in
        (good sig t e, omega arith, ltb-false _ _ b.0)
    go (suc r) e g =
        let n : suc r ≡ 0 → ⊥ = omega arith in
        let h = rw (ne_eqb (suc r) 0 n) at g in
        absurd (omega (arith, h))

pub arg_in : (sig t : List ℕ) (i from n : ℕ) → arg_refusal sig t i ≡ 0 → from ≡ 2 + span sig (drop 2 t) (i - 1)
    → n ≡ min (span sig (take (length t - from) (drop from t)) 1) (length (take (length t - from) (drop from t)) + 1)
    → (from + n ≤ length t) × (n ≡ span sig (drop from t) 1)
arg_in sig t i from n h f e =
    let g = arg_none sig t i h in
    let S = span sig (drop 2 t) (i - 1) in
    let w = args_within sig t i g.0 g.2 in
    let j : i ≡ (i - 1) + 1 = omega (arith, g.1) in
    let a = span_add sig (drop 2 t) (i - 1) 1 in
    let b = rw (drop-drop, ← f, ← j) at a in
    let m = rw tail_part at e in
    let l = length-drop from t in
    (omega (arith, w, b, m, l, f), omega (arith, w, b, m, l, f))

pub length_numbers : (t : List ℕ) → length (numbers t) ≡ length t / 2
unfolding numbers
length_numbers [] = refl
length_numbers (h ∷ []) = refl
length_numbers (h ∷ l ∷ r) = omega (arith, length_numbers r)

pub get_or_numbers : (t : List ℕ) (i : ℕ) → i < length t / 2 → get_or (numbers t) i 0 ≡ item_at t i
unfolding numbers
get_or_numbers [] i b = absurd (omega arith)
get_or_numbers (h ∷ []) i b = absurd (omega arith)
get_or_numbers (h ∷ l ∷ r) zero b = refl
get_or_numbers (h ∷ l ∷ r) (suc i) b =
    let e : 2 * suc i ≡ suc (suc (2 * i)) = omega arith in
    let f : suc (suc (2 * i)) + 1 ≡ suc (suc (2 * i + 1)) = omega arith in
    rw (e, f) (get_or_numbers r i (omega arith))

arities_each : (s : List ℕ) → arities_good s ≡ true → (f : ℕ) → get_or s f 0 ≤ 8
unfolding arities_good
arities_each [] h f = omega arith
arities_each (a ∷ s) h f = go (leb a 8) refl h (arities_each s) f
  where
    go : (b : Bool) → leb a 8 ≡ b → pick b (arities_good s) false ≡ true → (arities_good s ≡ true → (f : ℕ) → get_or s f 0 ≤ 8) → (f : ℕ) → get_or (a ∷ s) f 0 ≤ 8
    go true e p ih zero = leb-true a 8 e
    go true e p ih (suc f) = ih p f
    go false e p ih f = absurd (let z : ◌≡◌ {A = ℕ} 0 1 = cc in omega arith)

-- a signature that is not refused
pub signed : (sig : List ℕ) → sig_refusal sig ≡ 0 → Signed sig
unfolding sig_refusal
signed sig h =
    let a = past (eqb (length sig) 0) 1 _ h in
    let b = past (ltb 256 (length sig)) 1 _ a.1 in
    let d = taken (arities_good sig) 1 0 b.1 in
    record { short = ltb-false _ _ b.0; eight = arities_each sig d.0 }

-- what a check that answers Ok has shown
pub checked_good : (sig t : List ℕ) (k : Checked) → checked_number k ≡ refusal sig t → k ≡ Ok tt → Good sig t
checked_good sig t k h e = good sig t (sym h ∙ ap checked_number e)

pub checked_signed : (sig : List ℕ) (k : Checked) → checked_number k ≡ sig_refusal sig → k ≡ Ok tt → Signed sig
checked_signed sig k h e = signed sig (sym h ∙ ap checked_number e)

-- the ways out of the pass that counts the arguments still open
pub untaken : (sig t : List ℕ) → (Good sig t → ⊥) → false ≡ eqb (refusal sig t) 0
untaken sig t n = sym (ne_eqb (refusal sig t) 0 (λ h. n (good sig t h)))

pub odd_out : (sig t : List ℕ) → length t % 2 ≡ 1 → false ≡ eqb (refusal sig t) 0
unfolding refusal
odd_out sig t h = sym (ne_eqb (refusal sig t) 0 (λ z. go z))
  where
    go : refusal sig t ≡ 0 → ⊥
    go z =
        let a = past (ltb 64 (length t)) 4 _ z in
        let b = past (eqb (length t) 0) 5 _ a.1 in
        let c = past (eqb (length t % 2) 1) 5 _ b.1 in
        eqb-false _ _ c.0 h

pub all_taken : (sig t : List ℕ) → length t ≤ 64 → (length t ≡ 0 → ⊥) → (length t % 2 ≡ 1 → ⊥) → items_good (length sig) t ≡ true → span sig t 1 ≡ length t → refusal sig t ≡ 0
unfolding refusal
all_taken sig t a b c d e = rw (le-ltb 64 (length t) a, ne_eqb (length t) 0 b, ne_eqb (length t % 2) 1 c, d, eq-eqb (span sig t 1) (length t) e)

-- where the pass stands: the items before `at` are good, and `opened` arguments are to come
pub record Counting (sig t : List ℕ) (at opened : ℕ) : Type 0 where
  pub within : at ≤ length t
  pub even : at % 2 ≡ 0
  pub items : items_good (length sig) t ≡ items_good (length sig) (drop at t)
  pub counts : span sig t 1 ≡ at + span sig (drop at t) opened

pub counting_start : (sig t : List ℕ) → Counting sig t 0 1
counting_start sig t = record { within = omega arith; even = refl; items = refl; counts = omega arith }

module _ (sig t : List ℕ) (at opened x a : ℕ) (c : Counting sig t at opened) (h : at + 1 < length t) (n : opened ≡ 0 → ⊥)
    (f : x ≡ get_or t at 0 * 256 + get_or t (at + 1) 0) (g : a ≡ arity sig x) where
  long_enough_lem : 2 ≤ length (drop at t)
  long_enough_lem = rw length-drop (omega arith)

  here : get_or (drop at t) 0 0 * 256 + get_or (drop at t) 1 0 ≡ x
  here =
      let z : at + 0 ≡ at = omega arith in
      rw (get_or-drop at t 0 0, get_or-drop at t 1 0, z) (sym f)

  next : drop 2 (drop at t) ≡ drop (at + 2) t
  next = drop-drop 2 at t

  pub counting_bad : declared (length sig) x ≡ false → Good sig t → ⊥
  counting_bad e q =
      let s = rw (here, e) at (items_step (length sig) (drop at t) long_enough_lem) in
      let z : ◌≡◌ {A = ℕ} 0 1 = cc (q.symbols, c.items, s) in
      omega arith

  pub counting_turn : declared (length sig) x ≡ true → Counting sig t (at + 2) (opened - 1 + a)
  counting_turn e =
      let s = rw (here, e, next) at (items_step (length sig) (drop at t) long_enough_lem) in
      let o : opened ≡ suc (opened - 1) = omega arith in
      let w = rw (here, ← g, next) at (span_head sig (drop at t) (opened - 1) long_enough_lem) in
      let v : a + (opened - 1) ≡ opened - 1 + a = omega arith in
      let u = rw (← o, v) at w in
      record { within = omega arith; even = omega (arith, c.even); items = c.items ∙ s; counts = omega (arith, c.counts, u) }

pub counting_closed : (sig t : List ℕ) (at : ℕ) → Counting sig t at 0 → at < length t → Good sig t → ⊥
counting_closed sig t at c h q = omega (arith, c.counts, span_zero sig (drop at t), q.shape)

pub counting_end : (sig t : List ℕ) (at opened : ℕ) → Counting sig t at opened → length t ≤ at → length t ≤ 64 → (length t % 2 ≡ 1 → ⊥) → eqb opened 0 ≡ eqb (refusal sig t) 0
counting_end sig t at opened c h a b = go (ℕ_discrete opened 0)
  where
    e : drop at t ≡ []
    e = drop_of_length-le t h

    s : span sig t 1 ≡ length t + 2 * opened
    s = let k = rw e at c.counts in let z = span_short sig [] opened (omega arith) in omega (arith, k, z, c.within)

    i : items_good (length sig) t ≡ true
    i = let k = rw e at c.items in k ∙ items_short (length sig) [] (omega arith)

    go : Dec (opened ≡ 0) → eqb opened 0 ≡ eqb (refusal sig t) 0
    go (yes z) = eq-eqb opened 0 z ∙ sym (eq-eqb (refusal sig t) 0 (all_taken sig t a (λ q. empty q) b i (omega (arith, s))))
      where
        empty : length t ≡ 0 → ⊥
        empty q = let k = c.counts in omega (arith, s, z, span_pos sig t)
    go (no z) = ne_eqb opened 0 z ∙ untaken sig t (λ q. z (omega (arith, s, q.shape)))

-- the arguments that an item brings, by what it is
pub brings_symbol : (sig : List ℕ) (x r : ℕ) → x < length sig → r ≡ arity sig x → r ≡ pick (declared (length sig) x) (arity sig x) 4096
unfolding declared
brings_symbol sig x r h e = rw (lt-ltb x (length sig) h) e

pub brings_variable : (sig : List ℕ) (x : ℕ) → length sig ≤ x → variable_base ≤ x → x < variable_end → 0 ≡ pick (declared (length sig) x) (arity sig x) 4096
unfolding declared
brings_variable sig x h a b = let z : arity sig x ≡ 0 = get_or-eq_default sig 0 h in rw (le-ltb x (length sig) h, le-leb variable_base x a, lt-ltb x variable_end b, z)

pub brings_low : (sig : List ℕ) (x : ℕ) → length sig ≤ x → x < variable_base → 4096 ≡ pick (declared (length sig) x) (arity sig x) 4096
unfolding declared
brings_low sig x h a = rw (le-ltb x (length sig) h, lt-leb variable_base x a)

pub brings_high : (sig : List ℕ) (x : ℕ) → length sig ≤ x → variable_end ≤ x → 4096 ≡ pick (declared (length sig) x) (arity sig x) 4096
unfolding declared
brings_high sig x h a = let b : variable_base ≤ x = omega arith in rw (le-ltb x (length sig) h, le-leb variable_base x b, le-ltb x variable_end a)

-- where the pass stands: it counts, or it has met what is no item and can't close any more
pub record Passing (sig t : List ℕ) (at opened : ℕ) : Type 0 where
  pub within : at ≤ length t
  pub even : at % 2 ≡ 0
  pub few : opened ≤ 1 + 4096 * at
  pub so : Counting sig t at opened ⊎ ((Good sig t → ⊥) × (4096 ≤ opened + at))

pub passing_start : (sig t : List ℕ) → Passing sig t 0 1
passing_start sig t = record { within = omega arith; even = refl; few = omega arith; so = inl (counting_start sig t) }

module _ (sig t : List ℕ) (at opened x a : ℕ) (c : Passing sig t at opened) (h : at + 1 < length t) (n : opened ≡ 0 → ⊥)
    (f : x ≡ get_or t at 0 * 256 + get_or t (at + 1) 0) (l : a ≤ 4096) where
  pub passing_turn : a ≡ pick (declared (length sig) x) (arity sig x) 4096 → Passing sig t (at + 2) (opened - 1 + a)
  passing_turn g = record { within = omega arith; even = omega (arith, c.even); few = omega (arith, c.few); so = go c.so (declared (length sig) x) refl g }
    where
      go : Counting sig t at opened ⊎ ((Good sig t → ⊥) × (4096 ≤ opened + at)) → (b : Bool) → declared (length sig) x ≡ b → a ≡ pick b (arity sig x) 4096
          → Counting sig t (at + 2) (opened - 1 + a) ⊎ ((Good sig t → ⊥) × (4096 ≤ opened - 1 + a + (at + 2)))
      go (inl k) true e g = inl (counting_turn sig t at opened x a k h n f g e)
      go (inl k) false e g = inr (counting_bad sig t at opened x (arity sig x) k h n f refl e, omega arith)
      go (inr k) b e g = inr (k.0, omega (arith, k.1))

pub passing_closed : (sig t : List ℕ) (at : ℕ) → Passing sig t at 0 → at < length t → length t ≤ 64 → Good sig t → ⊥
passing_closed sig t at c h a q = ⊎_elim (λ (k : Counting sig t at 0). counting_closed sig t at k h q) (λ k. omega (arith, k.1)) c.so

pub passing_end : (sig t : List ℕ) (at opened : ℕ) → Passing sig t at opened → length t ≤ at → length t ≤ 64 → (length t % 2 ≡ 1 → ⊥) → eqb opened 0 ≡ eqb (refusal sig t) 0
passing_end sig t at opened c h a b =
    ⊎_elim (λ (k : Counting sig t at opened). counting_end sig t at opened k h a b) (λ k. ne_eqb opened 0 (omega (arith, k.1, c.within)) ∙ untaken sig t k.0) c.so

-- what a yes of the pass has shown
pub is_good : (sig t : List ℕ) (r : Bool) → r ≡ eqb (refusal sig t) 0 → r ≡ true → Good sig t
is_good sig t r h e = good sig t (eqb-true (refusal sig t) 0 (sym h ∙ e))

-- what has no length is empty
pub none_long : (l : List ℕ) → length l ≡ 0 → l ≡ []
none_long [] h = refl
none_long (x ∷ l) h = absurd (omega arith)
