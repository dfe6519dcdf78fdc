use Prim.Native.Nat.{ℕ, zero, suc, ◌+◌, ◌-◌, ◌*◌, ◌/◌, ◌%◌, ◌≤◌, ◌<◌}
use mathlib.Core.Path.{◌≡◌, refl, sym, ap, ◌∙◌}
use mathlib.Core.List.{List}
use lib.ListN.{length, get_or, set, drop, drop_of_length-le}
use lib.Seq.{drop-cons}
use mathlib.Core.Bool.{true, false, cond}
use lib.Dec.{leb, ltb}
use Rattle.std.proofs.Common.{count_by, mod-eq_of_lt, Option, Some, None}
use Rattle.std.specs.Option.{unwrap_or, IfSome}
use Rattle.std.proofs.lemmas.Bool.Decides.{nat_tests}
use Rattle.std.proofs.lemmas.List.Recursion.{is_count_by}
use native.Mathlib.Numerals.{add-one, sub-one}
use native.Mathlib.Omega.{arith}
use borrow.Author.Tests.{lt-ltb}
use Rattle.laws.specs.Choice.{pick}
use Rattle.chains.specs.Chains.{find, relinked}
use Rattle.keysets.specs.KeySets.{Sets, four, mark, unmark, emptyb}
use Rattle.paths.specs.Locate.{missing}
use Rattle.paths.specs.Rep.{lab}
use Rattle.paths.specs.TreeWalk.{up_num}
use Rattle.paths.specs.Insert.{St, key_for, ensured, marked, entered}
use Rattle.paths.specs.Delete.{freed, cleared, left}
use Rattle.termkeys.specs.Fill.{tables, fill, tables_and, ins_fill, del_fill}
use Rattle.laws.specs.Sizes.{key_limit, root_place}

pub up_root : (ks : List ℕ) (u : ℕ) → u ≡ 0 → root_place ≡ up_num ks u
unfolding up_num
up_root ks zero h = refl
up_root ks (suc v) h = absurd (omega arith)

pub up_key : (ks : List ℕ) (u : ℕ) → (u ≡ 0 → ⊥) → get_or ks ((u - 1) / 8) 0 * 8 + (u - 1) % 8 ≡ up_num ks u
unfolding up_num
up_key ks zero h = absurd (h refl)
up_key ks (suc u) h = rw sub-one

pub fill_turn : (link label ks us es : List ℕ) (i n w k : ℕ) → i < length us → length us ≡ length es → n ≡ up_num ks (get_or us i 0) → w ≡ lab n (get_or es i 0) → k ≡ find link label w
    → fill link label ks i (drop i us) (drop i es) ≡ fill link label (set ks i k) (i + 1) (drop (i + 1) us) (drop (i + 1) es)
unfolding fill
fill_turn link label ks us es i n w k l e q f g = rw (add-one, drop-cons us i 0 l, drop-cons es i 0 (omega arith), g, f, q)

pub fill_end : (link label ks us es : List ℕ) (i : ℕ) → length us ≤ i → fill link label ks i (drop i us) (drop i es) ≡ ks
unfolding fill
fill_end link label ks us es i h = rw (drop_of_length-le us h)

pub key_found : (σ : St Sets) (f w : ℕ) → f ≡ find σ.link σ.label w → f < key_limit → f ≡ key_for Sets mark σ w
unfolding key_for
key_found σ f w e h = let z : ltb (find σ.link σ.label w) key_limit ≡ true = rw (← e) (lt-ltb f key_limit h) in rw z e

pub key_added : (σ : St Sets) (w k : ℕ) → key_limit ≡ find σ.link σ.label w → k ≡ find σ.link σ.label 0 % key_limit → k ≡ key_for Sets mark σ w
unfolding key_for
key_added σ w k e g = let z : ltb (find σ.link σ.label w) key_limit ≡ false = rw (← e) in rw z g

-- the free key that was found is its number; where none is free, key 0 stands for 4096
pub free_number : (r : Option ℕ) (n : ℕ) → unwrap_or r key_limit ≡ n → IfSome r (λ k. k < key_limit) → unwrap_or r 0 ≡ n % key_limit
free_number None n e h = rw (← e) refl
free_number (Some k) n e h = rw (← e) (sym (mod-eq_of_lt h))

module _ (a b c d e f c' d' e' f' : List ℕ) (s w x k : ℕ) where
  pub entered_found : x ≡ find a b w → x < key_limit → four c' d' e' f' ≡ mark (four c d e f) x s → tables a b c' d' e' f' ≡ entered Sets mark (tables a b c d e f) s w
  unfolding entered marked ensured key_for
  entered_found h l m = let z : ltb (find a b w) key_limit ≡ true = rw (← h) (lt-ltb x key_limit l) in rw (z, ← h, ← m)

  pub entered_added : (a' b' : List ℕ) → key_limit ≡ find a b w → k ≡ find a b 0 % key_limit → a' ≡ relinked a b k w → b' ≡ set b k w → four c' d' e' f' ≡ mark (four c d e f) k s
      → tables a' b' c' d' e' f' ≡ entered Sets mark (tables a b c d e f) s w
  unfolding entered marked ensured key_for
  entered_added a' b' h g p q m = let z : ltb (find a b w) key_limit ≡ false = rw (← h) in rw (z, ← g, ← p, ← q, ← m)

pub ins_turn : (σ τ : St Sets) (ks us es : List ℕ) (s i n w k : ℕ) → i < length us → length us ≡ length es → n ≡ up_num ks (get_or us i 0) → w ≡ lab n (get_or es i 0) → k ≡ key_for Sets mark σ w → τ ≡ entered Sets mark σ s w
    → ins_fill σ ks s i (drop i us) (drop i es) ≡ ins_fill τ (set ks i k) s (i + 1) (drop (i + 1) us) (drop (i + 1) es)
unfolding ins_fill
ins_turn σ τ ks us es s i n w k l e q f g h = rw (add-one, drop-cons us i 0 l, drop-cons es i 0 (omega arith), h, g, f, q)

pub ins_end : (σ : St Sets) (ks us es : List ℕ) (s i : ℕ) → length us ≤ i → ins_fill σ ks s i (drop i us) (drop i es) ≡ tables_and σ ks
unfolding ins_fill
ins_end σ ks us es s i h = rw (drop_of_length-le us h)

pub del_turn : (σ τ : St Sets) (ks : List ℕ) (s i x k : ℕ) → 0 < i → x ≡ get_or ks (i - 1) 0 → k ≡ x % key_limit → τ ≡ left Sets unmark emptyb σ k s → del_fill σ ks s i ≡ del_fill τ ks s (i - 1)
unfolding del_fill
del_turn σ τ ks s zero x k h e f g = absurd (omega arith)
del_turn σ τ ks s (suc i) x k h e f g = let z : suc i - 1 ≡ i = omega arith in rw (z, g, f, e, z)

pub del_end : (σ : St Sets) (ks : List ℕ) (s i : ℕ) → i ≡ 0 → del_fill σ ks s i ≡ σ
unfolding del_fill
del_end σ ks s zero h = refl
del_end σ ks s (suc i) h = absurd (omega arith)

module _ (a b c d e f c' d' e' f' : List ℕ) (k s : ℕ) where
  pub left_kept : four c' d' e' f' ≡ unmark (four c d e f) k s → false ≡ emptyb (four c' d' e' f') k → tables a b c' d' e' f' ≡ left Sets unmark emptyb (tables a b c d e f) k s
  unfolding left cleared freed
  left_kept m z = let y : emptyb (unmark (four c d e f) k s) k ≡ false = sym (z ∙ ap (λ (σ : Sets). emptyb σ k) m) in rw (y, ← m)

  pub left_freed : (a' b' : List ℕ) → four c' d' e' f' ≡ unmark (four c d e f) k s → true ≡ emptyb (four c' d' e' f') k → a' ≡ relinked a b k 0 → b' ≡ set b k 0
      → tables a' b' c' d' e' f' ≡ left Sets unmark emptyb (tables a b c d e f) k s
  unfolding left cleared freed
  left_freed a' b' m z p q = let y : emptyb (unmark (four c d e f) k s) k ≡ true = sym (z ∙ ap (λ (σ : Sets). emptyb σ k) m) in rw (y, ← m, p, q)

-- a key is missing where its number is no key's
pub missing_counted : (ks : List ℕ) → missing ks ≡ count_by (leb key_limit) ks
unfolding missing
missing_counted = is_count_by missing (leb key_limit) refl (λ k ks. turn k (missing ks))
  where
    turn : (k m : ℕ) → pick (ltb k key_limit) m (suc m) ≡ cond (leb key_limit k) (1 + m) m
    turn k m = grind (arith, nat_tests)
