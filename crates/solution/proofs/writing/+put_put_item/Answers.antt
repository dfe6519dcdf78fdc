use Prim.Native.Nat.{ℕ, ◌+◌, ◌-◌, ◌≤◌, ◌<◌}
use mathlib.Core.List.{List}
use mathlib.Core.Logic.{◌≢◌}
use native.Mathlib.Omega.{arith}
use lib.ListN.{length, get_or, length-drop}
use borrow.Rule.Slice.PartMut.{put_mid}
use Rattle.laws.proofs.Lists.{tail_part}
use Rattle.theory.specs.ItemWalk.{walk_start, walk_low}
use Rattle.joining.specs.Sums.{given_begins}
use Rattle.solution.specs.ValueBytes.{item_bytes, term_bytes, Putting, putting_start, putting_room, putting_turn, putting_end}
use Rattle.solution.proofs.SolutionLaws.{tail_front}
use Rattle.solution.proofs.writing.+put_put_item.Goals as goal

-- in a turn: the item stands in the pool, and its bytes fit
low : {sig pool tab : List ℕ} {levels p : ℕ} {out₀ out : List ℕ} {used opened i : ℕ} → Putting sig pool tab levels p out₀ out used opened i → opened ≢ 0 → (opened + i ≤ length pool) × (i < length pool)
low {sig = sig} {pool = pool} {p = p} {opened = opened} {i = i} v z =
    let w = walk_low sig pool p opened i v.walk in (omega arith, omega arith)

fits : {sig pool tab : List ℕ} {levels p : ℕ} {out₀ out : List ℕ} {used opened i : ℕ} → Putting sig pool tab levels p out₀ out used opened i → opened ≢ 0 → length (term_bytes sig pool tab levels p) ≤ length out₀ → used + length (item_bytes sig pool tab levels (get_or pool i 0)) ≤ length out
fits {sig = sig} {pool = pool} {tab = tab} {levels = levels} {p = p} {out₀ = out₀} {out = out} {used = used} {opened = opened} {i = i} v z e =
    let room = putting_room sig pool tab levels p out₀ out used opened i v z (low v z).1 in
    omega (arith, room, v.filling.same)

pub put-loop-opened-init : goal.put-loop-opened-init
put-loop-opened-init t c = let a = c.args in
    let G = c.requires.0 in
    putting_start a.sig.now a.pool.now a.tab.now a.levels a.p a.out.now (walk_start a.sig.now a.pool.now a.p (given_begins a.sig.now a.pool.now G a.p c.requires.2) c.requires.2)

pub put-put_item-used-requires : goal.put-put_item-used-requires
put-put_item-used-requires t c = let a = c.args in
    let G = c.requires.0 in
    let l = c.loop-opened in
    let i = low l.invariant c.loop-opened-test.true in
    (omega (arith, c.decreases), (G, c.requires.1, G.named l.i i.1, rw (tail_part l.out l.used) (omega (arith, fits l.invariant c.loop-opened-test.true c.requires.3, length-drop l.used l.out))))

pub put-overflow_add-opened : goal.put-overflow_add-opened
put-overflow_add-opened t c = omega (arith, low c.loop-opened.invariant c.loop-opened-test.true, c.requires.0.short, c.opens.ensures.1)

pub put-loop-opened-preserved : goal.put-loop-opened-preserved
put-loop-opened-preserved t c = let a = c.args in
    let l = c.loop-opened in
    let k = c.put_item-used in
    let bytes : ℕ → List ℕ = item_bytes a.sig.now a.pool.now a.tab.now a.levels in
    let last = k.new.out in
    let b = tail_front l.used l.out last (bytes (get_or a.pool.now l.i 0)) k.auto.out k.ensures.1 in
    rw (k.ensures.0, c.opens.ensures.0) (putting_turn a.sig.now a.pool.now a.tab.now a.levels a.p a.out.now l.out l.used l.opened l.i l.invariant c.loop-opened-test.true (low l.invariant c.loop-opened-test.true).1 (put_mid l.used (length l.out - l.used) l.out last) b.0 b.1)

pub put-returns : goal.put-returns
put-returns t c = let a = c.args in
    let l = c.loop-opened in
    putting_end a.sig.now a.pool.now a.tab.now a.levels a.p a.out.now l.out l.used l.opened l.i l.invariant c.loop-opened-test.false
