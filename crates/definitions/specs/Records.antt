-- SCOPE.md, 'The solver's record': the unifier that is recorded, the variables that are listed, their bytes.
use Rattle.std.specs.Prelude.{ℕ, zero, suc, ◌+◌, ◌/◌, ◌%◌, ◌≤◌, ◌<◌, ◌≡◌, refl, List, [], ◌∷◌, ◌++◌, length}
use Rattle.std.proofs.Common.{sym, ap, ◌∙◌}
use Rattle.theory.specs.Flat.{Item, va}
use Rattle.theory.specs.Subst.{vars}
use Rattle.theory.specs.Unify.{Bind, ◌:=◌}
use Rattle.theory.specs.Canon.{Least, Mgu, unique}
use Rattle.theory.specs.Items.{number, items, shift}
use Rattle.theory.specs.Matcher.{items?}
use Rattle.laws.specs.Sizes.{value_limit}
use Rattle.terms.specs.Terms.{arity}

-- the unifier of a and b that is recorded: most general and idempotent ('the three properties of demand 3'), and 'where
-- variables are made equal and none of them gets a symbol, all take the one with the smallest written number'
pub record Unifier (sig : List ℕ) (a b : List Item) (θ : ℕ → List Item) : Type 0 where
  pub mgu : Mgu (arity sig) a b θ
  pub least : Least θ

abbrev pub unless_decided : {P : Type 0} → Dec P → Bind → List Bind → List Bind
unless_decided (yes h) b r = r
unless_decided (no n) b r = b ∷ r

-- of the k variables from y on, those 'whose value is not itself, by ascending written number'
unfoldable pub listed_from : (ℕ → List Item) → ℕ → ℕ → List Bind
listed_from θ zero y = []
listed_from θ (suc k) y = unless_decided (items? (θ y) (vars y)) (y := θ y) (listed_from θ k (y + 1))

-- the written variables are 64: 0 to 31 of the stored term, 32 to 63 of the question
abbrev pub listed_bindings : (ℕ → List Item) → List Bind
listed_bindings θ = listed_from θ 64 0

-- items in bytes, 'two bytes, high byte first'
unfoldable pub bytes : List Item → List ℕ
bytes [] = []
bytes (i ∷ l) = number i / 256 ∷ number i % 256 ∷ bytes l

-- 'the tag 0x10, a two-byte length (high first), then the variable's item and its value's items'
unfoldable pub field_bytes : Bind → List ℕ
field_bytes (y := l) = 16 ∷ length (bytes (va y ∷ l)) / 256 ∷ length (bytes (va y ∷ l)) % 256 ∷ bytes (va y ∷ l)

unfoldable pub written_fields : List Bind → List ℕ
written_fields [] = []
written_fields (b ∷ r) = field_bytes b ++ written_fields r

-- the record of a unifier
unfoldable pub record_of : (ℕ → List Item) → List ℕ
record_of θ = written_fields (listed_bindings θ)

-- 'solve answers the number of fields'
unfoldable pub count_of : (ℕ → List Item) → ℕ
count_of θ = length (listed_bindings θ)

-- what refusal 14 is not given for: no value has over 2,048 items
abbrev pub Short : (ℕ → List Item) → Type 0
Short θ = (y : ℕ) → y < 64 → length (θ y) ≤ value_limit

-- w is the record of the stored term t and the question q
pub record IsRecord (sig t q w : List ℕ) : Type 0 where
  pub by : ℕ → List Item
  pub unifier : Unifier sig (items t) (shift 32 (items q)) by
  pub is : w ≡ record_of by

-- 'this leaves one possible record'
listed_same : (θ η : ℕ → List Item) → ((x : ℕ) → θ x ≡ η x) → (k y : ℕ) → listed_from θ k y ≡ listed_from η k y
unfolding listed_from
listed_same θ η h zero y = refl
listed_same θ η h (suc k) y = rw (h y, listed_same θ η h k (y + 1))

pub one_unifier : (sig : List ℕ) (a b : List Item) (θ η : ℕ → List Item) → Unifier sig a b θ → Unifier sig a b η → (x : ℕ) → θ x ≡ η x
one_unifier sig a b θ η u v = unique (arity sig) a b θ η u.mgu v.mgu u.least v.least

pub one_listing : (sig : List ℕ) (a b : List Item) (θ η : ℕ → List Item) → Unifier sig a b θ → Unifier sig a b η → listed_bindings θ ≡ listed_bindings η
one_listing sig a b θ η u v = listed_same θ η (one_unifier sig a b θ η u v) 64 0

pub one_record : (sig t q w w' : List ℕ) → IsRecord sig t q w → IsRecord sig t q w' → w ≡ w'
unfolding record_of
one_record sig t q w w' r s =
    r.is ∙ ap written_fields (one_listing sig (items t) (shift 32 (items q)) r.by s.by r.unifier s.unifier) ∙ sym s.is
