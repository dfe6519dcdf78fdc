-- SCOPE.md, the tables of 'Numbers of refusal', for the calls on a store: when each refusal applies, in the table's
-- words and whatever else applies, and which of them each call has. AppliesFirst proves that a call is refused with
-- the first in rank that applies, and not where none does; no row says a word of the others, and their order here
-- says nothing. The other rows: 1 is about the lent tables' lengths alone, 10 about arguments (Conditions of
-- definitions), 16 is the log program's.
use Rattle.std.specs.Prelude.{ℕ, ◌*◌, ◌≤◌, ◌<◌, ◌≡◌, ◌⊎◌, ◌↔◌, List, length}
use Rattle.std.proofs.Math.Option.{some}
use Rattle.laws.specs.Members.{In, NoDup}
use Rattle.refusals.specs.declared.Refusal.{Refusal}
use Rattle.refusals.specs.Refusals.{number_of}
use Rattle.keys.specs.Keys.{Key, HasKey}
use Rattle.theory.specs.Flat.{Item}
use Rattle.theory.specs.Items.{items, shift}
use Rattle.theory.specs.Relations.{Unifiable}
use Rattle.definitions.specs.Ranks.{Rows, end, row, part, AppliesIn}
use Rattle.definitions.specs.Conditions.{signature_rows, term_rows}
use Rattle.definitions.specs.Trees.{tree_of}
use Rattle.definitions.specs.KeyBytes.{key_of}
use Rattle.library.specs.IsKey.{IsKey}
use Rattle.definitions.specs.Relations.{Stands}
use Rattle.definitions.specs.Records.{Unifier, IsRecord}
use Rattle.library.specs.Store.{Store, Call, open_with, insert, delete, with_key, retrieve, solve}
use Rattle.laws.specs.Sizes.{key_limit, slot_count, value_limit}

-- just n things are P: a list has them, each once
pub record Number {A : Type 0} (P : A → Type 0) (n : ℕ) : Type 0 where
  pub list : List A
  pub once : NoDup list
  pub exactly : (a : A) → In a list ↔ P a
  pub many : length list ≡ n

-- slot s is in use, and its term is P
abbrev pub HoldsTerm : Store → (List ℕ → Type 0) → ℕ → Type 0
HoldsTerm st P s = (t : List ℕ) × (st.held s ≡ some t) × P t

abbrev pub Used : Store → ℕ → Type 0
Used st s = (t : List ℕ) × (st.held s ≡ some t)

-- a key of a stored term
abbrev pub StoredKey : Store → Key → Type 0
StoredKey st K = (s : ℕ) × (t : List ℕ) × (st.held s ≡ some t) × HasKey (tree_of st.signature t) K

-- 4, SLOT: 'slot above 511 or not in use'
abbrev pub NoSlot : Store → ℕ → Type 0
NoSlot st s = (slot_count ≤ s) ⊎ (Used st s → ⊥)

-- 9, KEY: the bytes are no key
abbrev pub NoKey : Store → List ℕ → Type 0
NoKey st k = IsKey st.signature k → ⊥

-- 11, FULL: 'insert with 512 slots in use'
abbrev pub AllUsed : Store → Type 0
AllUsed st = (s : ℕ) → s < slot_count → Used st s

-- 12, KEYS: 'insert after which the stored terms would have over 4,096 distinct keys'
abbrev pub ManyKeys : Store → List ℕ → Type 0
ManyKeys st t = (n : ℕ) × Number (λ K. StoredKey st K ⊎ HasKey (tree_of st.signature t) K) n × (key_limit < n)

-- 13, NONE: 'solve, and no unifier exists'
abbrev pub NoUnifier : Store → ℕ → List ℕ → Type 0
NoUnifier st s q = (t : List ℕ) × (st.held s ≡ some t) × (Unifiable st.signature t q → ⊥)

-- 14, LONG: 'solve, and some value has over 2,048 items'; there are 64 written variables
abbrev pub LongValue : Store → ℕ → List ℕ → Type 0
LongValue st s q =
    (t : List ℕ) × (st.held s ≡ some t)
    × (θ : ℕ → List Item) × Unifier st.signature (items t) (shift 32 (items q)) θ
    × (y : ℕ) × (y < 64) × (value_limit < length (θ y))

-- 15, ROOM: 'the answer buffer is shorter than the answer': two bytes for each slot of a listing, or the record
abbrev pub ShortListing : (ℕ → Type 0) → ℕ → Type 0
ShortListing P room = (n : ℕ) × Number P n × (room < 2 * n)

abbrev pub ShortRecord : Store → ℕ → List ℕ → ℕ → Type 0
ShortRecord st s q room =
    (t : List ℕ) × (w : List ℕ) × (st.held s ≡ some t) × IsRecord st.signature t q w × (room < length w)

-- the slots that a key and a retrieval list
abbrev pub WithKey : Store → List ℕ → ℕ → Type 0
WithKey st k = HoldsTerm st (λ t. HasKey (tree_of st.signature t) (key_of k))

abbrev pub Standing : Store → ℕ → List ℕ → ℕ → Type 0
Standing st r q = HoldsTerm st (λ t. Stands st.signature r t q)

-- which refusals each call has, and when each applies. 2 is a signature's row, 5 to 8 are the rows of a term or a
-- question under the store's signature (Conditions of definitions); 3, RELATION: 'relation number above 4'
abbrev pub rows_of : Store → Call → Rows
rows_of st (open_with sig) = signature_rows sig
rows_of st (insert t) =
    part (term_rows st.signature t)
    (row Refusal.Full (AllUsed st)
    (row Refusal.Keys (ManyKeys st t)
    end))
rows_of st (delete s) = row Refusal.Slot (NoSlot st s) end
rows_of st (with_key k room) =
    row Refusal.Key (NoKey st k)
    (row Refusal.Room (ShortListing (WithKey st k) room)
    end)
rows_of st (retrieve r q room) =
    row Refusal.Relation (4 < r)
    (part (term_rows st.signature q)
    (row Refusal.Room (ShortListing (Standing st r q) room)
    end))
rows_of st (solve s q room) =
    row Refusal.Slot (NoSlot st s)
    (part (term_rows st.signature q)
    (row Refusal.Nothing (NoUnifier st s q)
    (row Refusal.Long (LongValue st s q)
    (row Refusal.Room (ShortRecord st s q room)
    end))))

-- a refusal with number n applies; a refusal by name does
abbrev pub AppliesNumber : Store → Call → ℕ → Type 0
AppliesNumber st c n = AppliesIn (rows_of st c) n

abbrev pub Applies : Store → Call → Refusal → Type 0
Applies st c why = AppliesNumber st c (number_of why)
