-- SCOPE.md, 'Store' and 'Numbers of refusal': the library as functions on stores, with no word of tables.
-- What a lent table adds is refusal 1 alone, which is about the tables' lengths.
use Rattle.std.specs.Prelude.{ℕ, zero, suc, ◌≡◌, refl, Bool, true, false, List, [], ◌∷◌, ◌++◌, ltb, eqb, length}
use Rattle.std.proofs.Common.{arith}
use Rattle.std.proofs.Math.Decide.{ℕ_discrete}
use Rattle.std.proofs.Math.Option.{Option, some, none}
use Rattle.laws.specs.Choice.{pick}
use Rattle.refusals.specs.declared.Refusal.TheVariants as Refusal
use Rattle.terms.specs.Terms.{sig_refusal, refusal}
use Rattle.keys.specs.Keys.{Place, root, step, Key, key}
use Rattle.keys.specs.Bytes.{is_key}
use Rattle.definitions.specs.Trees.{tree_of, keys_of}
use Rattle.definitions.specs.Candidates.{is_candidate}
use Rattle.library.specs.Formulas.{has_key}
use Rattle.definitions.specs.KeyBytes.{key_of}
use Rattle.definitions.specs.Decisions.{answer, stands, bindings?}
use Rattle.definitions.specs.Answers.{Answer, refused, refuse, opened, slot, slots, found, fits, recorded, unless}
use Rattle.laws.specs.Sizes.{key_limit, slot_count}

-- the signature, and the bytes of the term that each slot holds
pub record Store : Type 0 where
  pub signature : List ℕ
  pub held : ℕ → Option (List ℕ)

-- 'there are slots 0 to 511': of them, ascending, those that pass a test
unfoldable pub slots_from : (ℕ → Bool) → ℕ → ℕ → List ℕ
slots_from p zero s = []
slots_from p (suc k) s = pick (p s) (s ∷ slots_from p k (suc s)) (slots_from p k (suc s))

abbrev pub slots_with : (ℕ → Bool) → List ℕ
slots_with p = slots_from p slot_count 0

-- a slot in use whose term passes a test
abbrev pub holding : (List ℕ → Bool) → Option (List ℕ) → Bool
holding p none = false
holding p (some t) = p t

unfoldable pub in_use : Store → ℕ → Bool
in_use st s = pick (ltb s slot_count) (holding (λ t. true) (st.held s)) false

-- 'the smallest slot not in use'; 512 where all are
unfoldable pub free_from : Store → ℕ → ℕ → ℕ
free_from st zero s = s
free_from st (suc k) s = pick (in_use st s) (free_from st k (suc s)) s

abbrev pub first_free : Store → ℕ
first_free st = free_from st slot_count 0

unfoldable pub put : Store → ℕ → Option (List ℕ) → Store
put st s o = record { signature = st.signature; held = λ u. pick (eqb u s) o (st.held u) }

-- are two keys the same
unfoldable pub place? : (P Q : Place) → Dec (P ≡ Q)
place? root root = yes refl
place? root (step Q f j) = no (λ e. let z : ◌≡◌ {A = ℕ} 0 1 = cc in omega arith)
place? (step P e i) root = no (λ e. let z : ◌≡◌ {A = ℕ} 0 1 = cc in omega arith)
place? (step P e i) (step Q f j) = go (place? P Q) (ℕ_discrete e f) (ℕ_discrete i j)
  where
    go : Dec (P ≡ Q) → Dec (e ≡ f) → Dec (i ≡ j) → Dec (step P e i ≡ step Q f j)
    go (yes a) (yes b) (yes c) = yes (cc)
    go (no n) b c = no (λ h. n (cc))
    go (yes a) (no n) c = no (λ h. n (cc))
    go (yes a) (yes b) (no n) = no (λ h. n (cc))

unfoldable pub key? : (K L : Key) → Dec (K ≡ L)
key? (key P e) (key Q f) = go (place? P Q) (ℕ_discrete e f)
  where
    go : Dec (P ≡ Q) → Dec (e ≡ f) → Dec (key P e ≡ key Q f)
    go (yes a) (yes b) = yes (cc)
    go (no n) d = no (λ h. n (cc))
    go (yes a) (no n) = no (λ h. n (cc))

-- the keys of the stored terms, slot by slot
abbrev pub keys_in : List ℕ → Option (List ℕ) → List Key
keys_in sig none = []
keys_in sig (some t) = keys_of sig t

unfoldable pub keys_from : Store → ℕ → ℕ → List Key
keys_from st zero s = []
keys_from st (suc k) s = keys_in st.signature (st.held s) ++ keys_from st k (suc s)

abbrev pub keys_held : Store → List Key
keys_held st = keys_from st slot_count 0

-- each key once, and their number
abbrev pub is_in : Key → List Key → Bool
is_in K [] = false
is_in K (L ∷ l) = pick (answer (key? K L)) true (is_in K l)

unfoldable pub distinct : List Key → List Key
distinct [] = []
distinct (K ∷ l) = pick (is_in K l) (distinct l) (K ∷ distinct l)

abbrev pub key_count : Store → ℕ
key_count st = length (distinct (keys_held st))

-- the calls; `room` is the length of the answer buffer that is lent
pub data Call : Type 0 where
  open_with : List ℕ → Call
  insert : List ℕ → Call
  delete : ℕ → Call
  with_key : List ℕ → ℕ → Call
  retrieve : ℕ → List ℕ → ℕ → Call
  solve : ℕ → List ℕ → ℕ → Call

abbrev pub room_of : Call → ℕ
room_of (open_with sig) = 0
room_of (insert t) = 0
room_of (delete s) = 0
room_of (with_key k room) = room
room_of (retrieve r q room) = room
room_of (solve s q room) = room

-- 'the slots in use whose term has that key, ascending'
unfoldable pub keyed : Store → List ℕ → List ℕ
keyed st k = slots_with (λ s. holding (λ t. has_key (tree_of st.signature t) (key_of k)) (st.held s))

-- the slots that stay by the table of candidates, and those whose term stands in the relation
unfoldable pub candidates : Store → ℕ → List ℕ → List ℕ
candidates st r q = slots_with (λ s. holding (λ t. is_candidate st.signature r q t) (st.held s))

unfoldable pub answers : Store → ℕ → List ℕ → List ℕ
answers st r q = slots_with (λ s. holding (λ t. stands st.signature r t q) (st.held s))

-- the record of a slot's term and a question
abbrev pub solving_held : List ℕ → Option (List ℕ) → List ℕ → ℕ → Answer
solving_held sig none q room = refuse Refusal.Slot
solving_held sig (some t) q room =
    pick (eqb (refusal sig q) 0) (recorded (bindings? sig t q) room) (refused (refusal sig q))

-- what a call answers, the refusal that is first in rank first
unfoldable pub answered : Store → Call → Answer
answered st (open_with sig) = pick (eqb (sig_refusal sig) 0) opened (refuse Refusal.Signature)
answered st (insert t) =
    pick (eqb (refusal st.signature t) 0)
    (pick (eqb (first_free st) slot_count) (refuse Refusal.Full)
    (pick (ltb key_limit (key_count (put st (first_free st) (some t)))) (refuse Refusal.Keys)
    (slot (first_free st))))
    (refused (refusal st.signature t))
answered st (delete s) = pick (in_use st s) (slot s) (refuse Refusal.Slot)
answered st (with_key k room) = pick (is_key st.signature k) (fits (keyed st k) room (slots (keyed st k)))
    (refuse Refusal.Key)
answered st (retrieve r q room) =
    pick (ltb 4 r) (refuse Refusal.Relation)
    (pick (eqb (refusal st.signature q) 0)
    (fits (answers st r q) room (found (length (candidates st r q)) (answers st r q)))
    (refused (refusal st.signature q)))
answered st (solve s q room) = pick (in_use st s) (solving_held st.signature (st.held s) q room) (refuse Refusal.Slot)

-- 'opening sets the signature and empties all'
unfoldable pub empty : List ℕ → Store
empty sig = record { signature = sig; held = λ s. none }

-- 'no call but these three kinds changes which slots are in use or what they hold'
unfoldable pub after : Store → Call → Store
after st (open_with sig) = unless (answered st (open_with sig)) st (empty sig)
after st (insert t) = unless (answered st (insert t)) st (put st (first_free st) (some t))
after st (delete s) = unless (answered st (delete s)) st (put st s none)
after st (with_key k room) = st
after st (retrieve r q room) = st
after st (solve s q room) = st
