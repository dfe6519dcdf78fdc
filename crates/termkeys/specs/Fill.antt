-- Serves SCOPE.md, 'Store': what the loops over a term's items do to the tables.
use Rattle.std.specs.Prelude.{ℕ, zero, suc, ◌%◌, ◌≤◌, List, [], ◌∷◌, length, get_or, set}
use Rattle.chains.specs.Chains.{find}
use Rattle.keysets.specs.KeySets.{Sets, four, mark, unmark, emptyb}
use Rattle.paths.specs.Rep.{lab}
use Rattle.paths.specs.TreeWalk.{up_num}
use Rattle.paths.specs.Insert.{St, key_for, entered}
use Rattle.paths.specs.Delete.{left}
use Rattle.laws.specs.Sizes.{key_limit, link_length, set_length}

abbrev pub tables : List ℕ → List ℕ → List ℕ → List ℕ → List ℕ → List ℕ → St Sets
tables a b c d e f = record { link = a; label = b; sets = four c d e f }

pub record Sized (a b c d e f : List ℕ) : Type 0 where
  pub links : link_length ≤ length a
  pub labels : key_limit ≤ length b
  pub l0 : set_length ≤ length c
  pub l1 : set_length ≤ length d
  pub l2 : set_length ≤ length e
  pub l3 : set_length ≤ length f

-- the numbers of the items' keys, written into ks from i on
unfoldable pub fill : List ℕ → List ℕ → List ℕ → ℕ → List ℕ → List ℕ → List ℕ
fill link label ks i [] es = ks
fill link label ks i (u ∷ us) [] = ks
fill link label ks i (u ∷ us) (e ∷ es) = fill link label (set ks i (find link label (lab (up_num ks u) e))) (suc i) us es

pub record Both : Type 0 where
  pub st : St Sets
  pub ks : List ℕ

abbrev pub tables_and : St Sets → List ℕ → Both
tables_and σ ks = record { st = σ; ks = ks }

-- each item's key found or added, and slot s put in
unfoldable pub ins_fill : St Sets → List ℕ → ℕ → ℕ → List ℕ → List ℕ → Both
ins_fill σ ks s i [] es = tables_and σ ks
ins_fill σ ks s i (u ∷ us) [] = tables_and σ ks
ins_fill σ ks s i (u ∷ us) (e ∷ es) = ins_fill (entered Sets mark σ s (lab (up_num ks u) e))
    (set ks i (key_for Sets mark σ (lab (up_num ks u) e))) s (suc i) us es

-- the first n keys lose slot s, the last first
unfoldable pub del_fill : St Sets → List ℕ → ℕ → ℕ → St Sets
del_fill σ ks s zero = σ
del_fill σ ks s (suc n) = del_fill (left Sets unmark emptyb σ (get_or ks n 0 % key_limit) s) ks s n
