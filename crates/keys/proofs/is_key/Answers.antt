use native.Mathlib.Omega.{arith}
use mathlib.Core.Path.{◌≡◌, sym, ap, ◌∙◌}
use borrow.Author.Rules.{rules}
use borrow.Author.Tests.{tests, lt-ltb, le-ltb}
use lib.ListN.{length}
use Rattle.std.specs.List.{list_all}
use Rattle.std.proofs.lemmas.Iterator.Search.{all_from_yields_List}
use Rattle.keys.specs.Bytes.{is_key, end_good}
use Rattle.keys.proofs.KeyLaws.{good_step, threes, after_is, steps_walk, bad_end, bad_step, good_steps}
use Rattle.keys.proofs.is_key.Goals as goal

pub returns-then-key-gt-LONGEST : goal.returns-then-key-gt-LONGEST
unfolding is_key
returns-then-key-gt-LONGEST c = simp (lt-ltb 95 (length c.args.key.now) (omega arith))

pub returns-then-end-ne2 : goal.returns-then-end-ne2
unfolding is_key
returns-then-end-ne2 c =
    let k = c.args.key.now in
    let e = c.remainder-end.ensures ∙ c.chunks_exact-steps.ensures.remainder ∙ after_is k in
    simp (le-ltb 95 (length k) (omega arith)) (sym (bad_end c.args.sig.now k c.remainder-end.result.now e c.if-end-ne2.true))

pub returns-then-all : goal.returns-then-all
unfolding is_key
returns-then-all c =
    let k = c.args.key.now in
    let sig = c.args.sig.now in
    let e = c.remainder-end.ensures ∙ c.chunks_exact-steps.ensures.remainder ∙ after_is k in
    let walk = steps_walk c.chunks_exact-steps.result k c.chunks_exact-steps.ensures.size c.chunks_exact-steps.ensures.rest in
    let a : c.all.result ≡ list_all (good_step sig) (threes k) =
    all_from_yields_List (good_step sig) _ _ c.all.result c.all.ensures.ran walk (λ x b q m. search (rules, tests)) in
    let g = good_steps sig k c.remainder-end.result.now e c.if-end-ne2.false (sym a ∙ c.if-all.true) in
    simp (le-ltb 95 (length k) (omega arith)) (c.end_good.ensures ∙ ap (end_good sig) c.number_at.ensures.0 ∙ sym g)

pub returns-else-all : goal.returns-else-all
unfolding is_key
returns-else-all c =
    let k = c.args.key.now in
    let sig = c.args.sig.now in
    let walk = steps_walk c.chunks_exact-steps.result k c.chunks_exact-steps.ensures.size c.chunks_exact-steps.ensures.rest in
    let a : c.all.result ≡ list_all (good_step sig) (threes k) =
    all_from_yields_List (good_step sig) _ _ c.all.result c.all.ensures.ran walk (λ x b q m. search (rules, tests)) in
    simp (le-ltb 95 (length k) (omega arith)) (c.if-all.false ∙ sym (bad_step sig k (sym a ∙ c.if-all.false)))
