-- SCOPE.md, 'Store': what the lent tables hold, and what each call makes of it, as functions on the tables' contents.
use Rattle.std.specs.Prelude.{ℕ, zero, suc, ◌+◌, ◌-◌, ◌*◌, ◌≤◌, ◌≡◌, List, [], ◌∷◌, ◌++◌, map, Bool, ltb, eqb, length, get_or, take, drop, replicate}
use Rattle.std.proofs.lemmas.List.Edits.{sets}
use Rattle.laws.specs.Choice.{pick}
use Rattle.slots.specs.Slots.{has, inserted, removed, others}
use Rattle.terms.specs.Terms.{numbers, refusal}
use Rattle.keys.specs.Keys.{end_of}
use Rattle.chains.specs.Chains.{find, longer}
use Rattle.keysets.specs.KeySets.{Sets, four, met}
use Rattle.paths.specs.Rep.{lab}
use Rattle.paths.specs.Ups.{ups_f}
use Rattle.paths.specs.Insert.{St}
use Rattle.paths.specs.Locate.{missing}
use Rattle.termkeys.specs.Fill.{tables, fill, ins_fill, del_fill}
use Rattle.layout.specs.Tables.{Tables, held}
use Rattle.layout.specs.Layout.{signature_of, term_of, used_of, blank, signed, with_term}
use Rattle.laws.specs.Sizes.{chain_count, free_head, key_limit, last_key, link_length, root_place, set_length, slot_count}
use Rattle.terms.specs.Terms.{arity}

-- the key table and the sets among them
abbrev pub index_of : Tables → St Sets
index_of T = tables T.link T.label T.s0 T.s1 T.s2 T.s3

-- OUTLINE: where the items of a term hang, and what stands at the end of their paths
unfoldable pub ups_of : List ℕ → List ℕ → List ℕ
ups_of sig t = ups_f (λ x. arity sig x) 0 (0 ∷ []) (numbers t)

unfoldable pub ends_of : List ℕ → List ℕ → List ℕ
ends_of sig t = take (length (ups_of sig t)) (map end_of (numbers t))

-- what the running outline holds of a term
pub record Outlined (sig t : List ℕ) (items : ℕ) (ups ends : List ℕ) : Type 0 where
  pub few : items ≤ 32
  pub room : (length ups ≡ 32) × (length ends ≡ 32)
  pub many : items ≡ length (ups_of sig t)
  pub hang : take items ups ≡ ups_of sig t
  pub stand : take items ends ≡ ends_of sig t

-- KEYS: the numbers of the keys of items with these ups and ends, 4096 for one that is missing
unfoldable pub no_numbers : List ℕ
no_numbers = replicate 32 0

unfoldable pub located : List ℕ → List ℕ → List ℕ → List ℕ → List ℕ
located link label us es = fill link label no_numbers 0 us es

-- are as many keys free as are missing; refusal 12 is given exactly where this is false
unfoldable pub room_for : List ℕ → List ℕ → List ℕ → List ℕ → Bool
room_for link label us es = longer link (missing (take (length us) (located link label us es))) (get_or link free_head 0)

-- the index with the slot put into the keys of such items, each found or added
unfoldable pub with_keys : St Sets → List ℕ → List ℕ → ℕ → St Sets
with_keys σ us es s = (ins_fill σ no_numbers s 0 us es).st

-- the index with the slot taken out of them, a key being freed where it has no slot left
unfoldable pub without_keys : St Sets → List ℕ → List ℕ → ℕ → St Sets
without_keys σ us es s = del_fill σ (located σ.link σ.label us es) s (length us)

-- the index without the slot of a stored term; what no insert wrote has no keys
unfoldable pub without_term : St Sets → List ℕ → ℕ → St Sets
without_term σ b s = let sig = signature_of b in let t = term_of b s in
    pick (eqb (refusal sig t) 0) (without_keys σ (ups_of sig t) (ends_of sig t) s) σ

-- what a table of numbers holds of the term in a slot: without the slot in its first keys, the index is without the
-- term
pub record KeysIn (bytes link label : List ℕ) (s items : ℕ) (keys : List ℕ) : Type 0 where
  pub few : items ≤ 32
  pub drops : (σ : St Sets) → σ.link ≡ link → σ.label ≡ label → del_fill σ keys s items ≡ without_term σ bytes s

-- OPENING: every key free, in order: each leads to the next, no chain of labels has a key, and the first one is key 0
unfoldable pub count_from : ℕ → ℕ → List ℕ
count_from k zero = []
count_from k (suc n) = k ∷ count_from (suc k) n

unfoldable pub freed : List ℕ → List ℕ
freed l = count_from 2 last_key ++ (replicate (chain_count + 1) 0 ++ (1 ∷ drop link_length l))

unfoldable pub opened_with : Tables → List ℕ → Tables
opened_with T sig =
    held (signed T.bytes sig) (blank 8 T.used) (blank key_limit T.label) (freed T.link)
    (blank set_length T.s0) (blank set_length T.s1) (blank set_length T.s2) (blank set_length T.s3)

-- INSERT: the smallest slot not in use, or 512
unfoldable pub least_from : List ℕ → ℕ → ℕ → ℕ
least_from ws from zero = from
least_from ws from (suc k) = pick (eqb (has ws from) 1) from (least_from ws (suc from) k)

unfoldable pub free_slot : List ℕ → ℕ
free_slot u = least_from (others (used_of u)) 0 slot_count

-- tables with other bytes, slots in use and index
abbrev pub renewed : List ℕ → List ℕ → St Sets → Tables
renewed b u σ = held b u σ.label σ.link σ.sets.t0 σ.sets.t1 σ.sets.t2 σ.sets.t3

unfoldable pub inserted_at : Tables → List ℕ → ℕ → Tables
inserted_at T t s = let sig = signature_of T.bytes in
    renewed (with_term T.bytes s t) (sets T.used 0 (used_of (inserted (used_of T.used) s)))
    (with_keys (index_of T) (ups_of sig t) (ends_of sig t) s)

-- DELETE: the bytes of a slot that is free again stay as they were
unfoldable pub deleted_at : Tables → ℕ → Tables
deleted_at T s =
    renewed T.bytes (sets T.used 0 (used_of (removed (used_of T.used) s))) (without_term (index_of T) T.bytes s)

-- KEY QUESTION: the number of the key that bytes name, or 4096; the star's end is 256
unfoldable pub end_number : ℕ → ℕ
end_number e = pick (ltb e 256) e 256

unfoldable pub number_from : List ℕ → List ℕ → ℕ → List ℕ → ℕ
number_from link label p [] = key_limit
number_from link label p (h ∷ []) = key_limit
number_from link label p (h ∷ l ∷ []) = find link label (lab p (end_number (h * 256 + l)))
number_from link label p (h ∷ l ∷ i ∷ r) = number_from link label (find link label (lab p (h * 256 + l)) * 8 + (i - 1)) r

-- the root's place is 32776
unfoldable pub key_number : List ℕ → List ℕ → List ℕ → ℕ
key_number link label k = number_from link label root_place k

-- the slots in use whose term has the key
unfoldable pub slots_of_key : Tables → List ℕ → List ℕ
slots_of_key T k = met (four T.s0 T.s1 T.s2 T.s3) (key_number T.link T.label k) (used_of T.used)
