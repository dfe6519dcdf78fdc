-- SCOPE.md, 'Store': the store that the tables stand for, and that opening, insert and delete of the tables are those
-- of the store.
use Prim.Native.Nat.{ℕ, zero, suc, ◌+◌, ◌*◌, ◌/◌, ◌%◌, ◌≤◌, ◌<◌}
use Rattle.std.specs.Prelude.{◌≡◌, refl, List, Bool, true, false, eqb, length, get_or}
use Rattle.std.proofs.Common.{sym, ◌∙◌, subst, arith, eq-eqb, ne_eqb}
use Rattle.std.proofs.Math.Option.{Option, some, none}
use Rattle.laws.specs.Choice.{pick}
use Rattle.laws.specs.Digits.{bit, bit_suc, bit_zero}
use Rattle.slots.specs.Slots.{has}
use Rattle.terms.specs.Terms.{sig_refusal, refusal}
use Rattle.terms.proofs.TermLaws.{signed}
use Rattle.keys.specs.Keys.{Tm}
use Rattle.definitions.specs.Trees.{tree_of}
use Rattle.keysets.specs.KeySets.{Sets, four, tab, word, Ok, mem, mark}
use Rattle.paths.specs.Insert.{St, rep_iff}
use Rattle.paths.specs.StoredTrees.{Stored, KeyIn, put_tree}
use Rattle.paths.specs.Open.{Fresh, open_good}
use Rattle.termkeys.specs.TermKeysMean.{GoodSt}
use Rattle.layout.specs.Layout.{Long, signature_of, term_of, used_of, blank}
use Rattle.layout.proofs.LayoutLaws.{length_blank, length_signed}
use Rattle.layout.specs.Tables.{Tables, ample}
use Rattle.store.specs.Tables.{index_of, freed, opened_with}
use Rattle.store.specs.Links.{freed_length, freed_next, freed_none, freed_first}
use Rattle.slots.specs.Sets.{Words}
use Rattle.store.specs.Kept.{signed_signature, has_used, blank_low, long_is}
use Rattle.laws.specs.Sizes.{bytes_length, key_limit, last_key, set_keys, set_length, slot_count}

-- a store: what each slot holds, as bytes
abbrev pub Slots : Type 0
Slots = ℕ → Option (List ℕ)

-- the store with something else in slot s
unfoldable pub changed : Slots → ℕ → Option (List ℕ) → Slots
changed st s o x = pick (eqb x s) o (st x)

-- 1 where something stands
abbrev pub filled : Option (List ℕ) → ℕ
filled none = 0
filled (some t) = 1

abbrev pub stored_tree : List ℕ → Option (List ℕ) → Option Tm
stored_tree sig none = none
stored_tree sig (some t) = some (tree_of sig t)

-- the terms as trees
abbrev pub stored_trees : List ℕ → Slots → ℕ → Option Tm
stored_trees sig st s = stored_tree sig (st s)

-- the tables stand for the store: the signature, the slots in use, the bytes of each term, and the index, in which
-- the set of every key is the slots whose term has it and only keys of stored terms are in use
pub record Holds (T : Tables) (sig : List ℕ) (st : Slots) : Type 0 where
  pub bytes : bytes_length ≤ length T.bytes
  pub used : 8 ≤ length T.used
  pub words : Words T.used
  pub signature : signature_of T.bytes ≡ sig
  pub slots : (s : ℕ) → s < slot_count → has (used_of T.used) s ≡ filled (st s)
  pub beyond : (s : ℕ) → slot_count ≤ s → st s ≡ none
  pub terms : (s : ℕ) (t : List ℕ) → st s ≡ some t → (term_of T.bytes s ≡ t) × (refusal sig t ≡ 0)
  pub index : GoodSt (index_of T) (stored_trees sig st)

pub changed_same : (st : Slots) (s : ℕ) (o : Option (List ℕ)) (x : ℕ) → x ≡ s → changed st s o x ≡ o
unfolding changed
changed_same st s o x h = rw (eq-eqb x s h)

pub changed_other : (st : Slots) (s : ℕ) (o : Option (List ℕ)) (x : ℕ) → (x ≡ s → ⊥) → changed st s o x ≡ st x
unfolding changed
changed_other st s o x h = rw (ne_eqb x s h)

pub trees_changed : (sig : List ℕ) (st : Slots) (s : ℕ) (o : Option (List ℕ)) (x : ℕ) → put_tree (stored_trees sig st) s (stored_tree sig o) x ≡ stored_trees sig (changed st s o) x
unfolding put_tree changed
trees_changed sig st s o x = go (eqb x s)
  where
    go : (b : Bool) → pick b (stored_tree sig o) (stored_tree sig (st x)) ≡ stored_tree sig (pick b o (st x))
    go true = refl
    go false = refl

-- an index for a store is one for every store with the same terms
pub good_same : (σ : St Sets) (a b : ℕ → Option Tm) → ((s : ℕ) → a s ≡ b s) → GoodSt σ a → GoodSt σ b
good_same σ a b e g = record {
  rep = rep_iff _ _ _ _ (Stored b) (λ s P x. ((λ (h : KeyIn (a s) P x). subst (λ (o : Option Tm). KeyIn o P x) (e s) h), (λ (h : KeyIn (b s) P x). subst (λ (o : Option Tm). KeyIn o P x) (sym (e s)) h))) g.rep;
  full = g.full;
  links = g.links;
  labels = g.labels;
  ok = g.ok;
}

-- such tables are long enough
pub holds_ample : (T : Tables) (sig : List ℕ) (st : Slots) → Holds T sig st → ample T ≡ true
unfolding ample tab
holds_ample T sig st h =
    let l = h.index.ok.long in
    long_is _ _ _ _ _ _ _ _ h.bytes h.used h.index.labels h.index.links (l 0 (omega arith)) (l 1 (omega arith)) (l 2 (omega arith)) (l 3 (omega arith))

pub zero_digit : (i : ℕ) → bit 0 i ≡ 0
zero_digit zero = bit_zero 0
zero_digit (suc i) = bit_suc 0 i ∙ zero_digit i

-- four tables of zeros have no member
module _ (c d e f : List ℕ) (l0 : set_length ≤ length c) (l1 : set_length ≤ length d) (l2 : set_length ≤ length e) (l3 : set_length ≤ length f) where
  abbrev clear : Sets
  clear = four (blank set_length c) (blank set_length d) (blank set_length e) (blank set_length f)

  tab_long : (q : ℕ) → set_length ≤ length (tab clear q)
  unfolding tab
  tab_long zero = let z = length_blank set_length c l0 in omega (arith, z)
  tab_long (suc zero) = let z = length_blank set_length d l1 in omega (arith, z)
  tab_long (suc (suc zero)) = let z = length_blank set_length e l2 in omega (arith, z)
  tab_long (suc (suc (suc q))) = let z = length_blank set_length f l3 in omega (arith, z)

  tab_zero : (q i : ℕ) → i < set_length → get_or (tab clear q) i 0 ≡ 0
  unfolding tab
  tab_zero zero i h = blank_low set_length c i h
  tab_zero (suc zero) i h = blank_low set_length d i h
  tab_zero (suc (suc zero)) i h = blank_low set_length e i h
  tab_zero (suc (suc (suc q))) i h = blank_low set_length f i h

  word_zero : (k i : ℕ) → i < 8 → word clear k i ≡ 0
  unfolding word
  word_zero k i h = tab_zero (k / set_keys) (k % set_keys * 8 + i) (omega arith)

  clear_ok : Ok clear
  clear_ok = record { long = λ q h. tab_long q; fits = λ k i h g. rw (word_zero k i g) (omega arith) }

  clear_none : (k s : ℕ) → mem clear k s → ⊥
  clear_none k s m = let z = rw (word_zero k (s / 64) (let q = m.1 in omega arith)) at m.2 in omega (arith, zero_digit (s % 64))

-- every key is free
fresh : (link label : List ℕ) → Fresh (freed link) (blank key_limit label)
fresh link label = record {
  next = λ k h. freed_next link k h;
  last = freed_none link last_key (omega arith) (omega arith);
  heads = λ b h g. freed_none link b (omega arith) g;
  first = freed_first link;
  labels = λ k h. blank_low key_limit label k h;
}

-- OPENING gives the empty store
pub open_holds : (T : Tables) (sig : List ℕ) → Long (length T.bytes) (length T.used) (length T.label) (length T.link) (length T.s0) (length T.s1) (length T.s2) (length T.s3)
    → sig_refusal sig ≡ 0 → Holds (opened_with T sig) sig (λ s. none)
unfolding opened_with
open_holds T sig L h = record {
  bytes = (let z = length_signed T.bytes sig L.bytes in let y = L.bytes in omega (arith, z));
  used = (let z = length_blank 8 T.used L.used in let y = L.used in omega (arith, z));
  words = λ i g. rw (blank_low 8 T.used i g) (omega arith);
  signature = signed_signature T.bytes sig L.bytes (signed sig h);
  slots = λ s g. has_used (blank 8 T.used) s g ∙ rw (blank_low 8 T.used (s / 64) (omega arith)) (zero_digit (s % 64));
  beyond = λ s g. refl;
  terms = λ s t g. absurd (let z : ◌≡◌ {A = ℕ} 0 1 = cc in omega arith);
  index = open_good Sets mem mark Ok _ (fresh T.link T.label) (let z = freed_length T.link L.links in let y = L.links in omega (arith, z)) (let z = length_blank key_limit T.label L.labels in let y = L.labels in omega (arith, z))
      (clear_ok T.s0 T.s1 T.s2 T.s3 L.l0 L.l1 L.l2 L.l3) (clear_none T.s0 T.s1 T.s2 T.s3 L.l0 L.l1 L.l2 L.l3);
}
