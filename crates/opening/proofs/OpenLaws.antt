-- The ways out of opening, over plain contents of the tables.
use Prim.Native.Nat.{ℕ, ◌≤◌}
use mathlib.Core.Path.{◌≡◌, refl}
use mathlib.Core.List.{List, []}
use mathlib.Core.Bool.{true, false}
use lib.ListN.{length}
use Rattle.std.specs.Prelude.{Ok, Err}
use Rattle.refusals.specs.declared.Refusal.{Refusal}
use Rattle.refusals.specs.Refusals.{number_of}
use Rattle.terms.specs.Terms.{sig_refusal}
use Rattle.definitions.specs.Answers.{opened}
use Rattle.chains.specs.FreeChain.{Freed}
use Rattle.layout.specs.Layout.{blank, signed}
use Rattle.layout.specs.Tables.{Tables, held, ample}
use Rattle.calls.specs.Outcome.{outcome, told}
use Rattle.store.specs.Links.{freed_is}
use Rattle.store.specs.Tables.{opened_with}
use Rattle.store.specs.Calls.{opening}
use Rattle.calls.proofs.Public.{too_short, refuses, answers, bad, fine}
use Rattle.laws.specs.Sizes.{key_limit, link_length, set_length}

module _ (T : Tables) (sig : List ℕ) where
  pub open_short : ample T ≡ false → outcome (Err Refusal.Table) T [] ≡ told [] (opening T sig)
  unfolding opening
  open_short a = too_short T (opened_with T sig) [] _ a

  pub open_bad : (w : Refusal) → ample T ≡ true → number_of w ≡ sig_refusal sig → outcome (Err w) T [] ≡ told [] (opening T sig)
  unfolding opening
  open_bad w a e = refuses T (opened_with T sig) [] _ w a (bad (sig_refusal sig) (Err w) e w opened refl)

  pub open_done : (b' u' l' k' c' d' e' f' : List ℕ) → ample T ≡ true → 0 ≡ sig_refusal sig → link_length ≤ length T.link
      → b' ≡ signed T.bytes sig → u' ≡ blank 8 T.used → l' ≡ blank key_limit T.label → Freed T.link k'
      → c' ≡ blank set_length T.s0 → d' ≡ blank set_length T.s1 → e' ≡ blank set_length T.s2 → f' ≡ blank set_length T.s3
      → outcome (Ok (record { first = 0; second = 0 })) (held b' u' l' k' c' d' e' f') [] ≡ told [] (opening T sig)
  unfolding opening opened_with
  open_done b' u' l' k' c' d' e' f' a e n p q l r x y z w =
      let links = freed_is T.link k' n r in
      answers T (opened_with T sig) [] _ 0 0 [] (held b' u' l' k' c' d' e' f') [] a (rw (fine (sig_refusal sig) (Ok tt) e refl)) (rw (p, q, l, links, x, y, z, w)) refl
