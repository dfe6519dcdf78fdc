-- SCOPE.md, 'Paths and keys': the key question on tables that stand for a store answers what the store answers.
use Rattle.std.specs.Prelude.{ℕ, ◌<◌, ◌≡◌, ◌↔◌, List, Bool}
use Rattle.std.proofs.Math.Path.{refl}
use Rattle.std.proofs.Math.Bool.{true, false}
use Rattle.std.proofs.Math.Option.{Option, some, none}
use Rattle.laws.specs.Choice.{pick}
use Rattle.keys.specs.Keys.{Place, Key, key}
use Rattle.keys.specs.Bytes.{is_key}
use Rattle.definitions.specs.Trees.{tree_of}
use Rattle.definitions.specs.Spelt.{clash}
use Rattle.library.specs.Formulas.{has_key}
use Rattle.library.specs.FormulasTable.{has_key_lem}
use Rattle.definitions.specs.KeyBytes.{key_of}
use Rattle.paths.specs.Insert.{RK}
use Rattle.paths.specs.StoredTrees.{Stored, KeyIn}
use Rattle.slots.specs.Slots.{has, members}
use Rattle.library.specs.Store.{Store, holding, keyed, with_key, answered}
use Rattle.layout.specs.Tables.{Tables}
use Rattle.store.specs.Tables.{slots_of_key}
use Rattle.store.specs.Calls.{key_question}
use Rattle.store.specs.TablesHold.{stored_tree}
use Rattle.store.specs.Changes.{KeysOf}
use Rattle.store.specs.Question.{key_means}
use Rattle.meaning.specs.Stand.{Stand, trees_of, stand_ample, Means, question_means}
use Rattle.meaning.specs.Lists.{members_slots}
use Rattle.definitions.specs.Answers.{refused, slots, fits}
use Rattle.laws.specs.Sizes.{slot_count}

-- a slot in use whose term has a key, as a test
abbrev pub slot_has_key : Store → Key → ℕ → Bool
slot_has_key st K s = holding (λ t. has_key (tree_of st.signature t) K) (st.held s)

holds_key_lem : (st : Store) (P : Place) (e s : ℕ) → (slot_has_key st (key P e) s ≡ true) ↔ Stored (trees_of st) s P e
holds_key_lem st P e s = go (st.held s)
  where
    go : (o : Option (List ℕ)) → (holding (λ t. has_key (tree_of st.signature t) (key P e)) o ≡ true) ↔ KeyIn (stored_tree st.signature o) P e
    go none = ((λ h. clash h), (λ h. absurd h))
    go (some t) = has_key_lem (tree_of st.signature t) (key P e)

module _ (T : Tables) (st : Store) (h : Stand T st) where
  -- the key question: the slots of the answer are those that hold a term with the key
  pub key_slots : (k : List ℕ) → is_key st.signature k ≡ true → (s : ℕ) → s < slot_count → (has (slots_of_key T k) s ≡ 1) ↔ (slot_has_key st (key_of k) s ≡ true)
  key_slots k q s l = go (key_of k) (key_means T st.signature st.held k s h.holds q l)
    where
      go : (K : Key) → (has (slots_of_key T k) s ≡ 1) ↔ RK (KeysOf st.signature st.held) s K → (has (slots_of_key T k) s ≡ 1) ↔ (slot_has_key st K s ≡ true)
      go (key P e) c = ((λ z. (holds_key_lem st P e s).1 (c.0 z)), (λ z. c.1 ((holds_key_lem st P e s).0 z)))

  pub key_members : (k : List ℕ) → is_key st.signature k ≡ true → members (slots_of_key T k) ≡ keyed st k
  unfolding keyed
  key_members k q = members_slots (slots_of_key T k) (λ s. slot_has_key st (key_of k) s) (key_slots k q)

  -- what the key question answers is what the store answers
  pub asking_means : (k : List ℕ) (room : ℕ) → Means (key_question T k room) (answered st (with_key k room)) st
  unfolding key_question answered
  asking_means k room = question_means _ _ T st h (rw (stand_ample T st h, h.holds.signature) (go (is_key st.signature k) refl))
    where
      go : (b : Bool) → is_key st.signature k ≡ b
          → pick b (fits (members (slots_of_key T k)) room (slots (members (slots_of_key T k)))) (refused 9) ≡ pick b (fits (keyed st k) room (slots (keyed st k))) (refused 9)
      go true q = rw (key_members k q)
      go false q = refl
