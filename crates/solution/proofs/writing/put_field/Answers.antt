use Rattle.std.proofs.Common.{arith, ◌≡◌, ◌+◌, ◌/◌, ◌%◌, length, sym, refl, length-take-le}
use Rattle.solution.specs.RecordFields.{length_part}
use Rattle.solution.proofs.SolutionLaws.{bound_bytes, bound_length, bound_room, head_room, head_back, field_put}
use Rattle.solution.proofs.writing.put_field.Goals as goal

pub slice_bounds-put-count : goal.slice_bounds-put-count
slice_bounds-put-count c = let a = c.args in
    omega (arith, head_room a.sig.now a.pool.now a.tab.now a.y c.requires.5 a.out.now c.requires.3)

pub slice_bounds-put-start : goal.slice_bounds-put-start
slice_bounds-put-start c = let a = c.args in
    omega (arith, head_room a.sig.now a.pool.now a.tab.now a.y c.requires.5 a.out.now c.requires.3)

pub put-n-requires : goal.put-n-requires
put-n-requires c = let a = c.args in
    (c.requires.0, c.requires.1, omega (arith, c.requires.5, c.requires.1.inside a.y), bound_room a.sig.now a.pool.now a.tab.now a.y c.requires.5 a.out.now c.requires.3)

pub overflow_cast-n : goal.overflow_cast-n
overflow_cast-n c = let a = c.args in
    omega (arith, c.put-n.ensures.0, bound_length a.sig.now a.pool.now a.tab.now a.y c.requires.5, length_part a.sig.now a.pool.now a.tab.now a.y c.requires.5, c.requires.4)

pub slice_bounds-copy_from_slice-end : goal.slice_bounds-copy_from_slice-end
slice_bounds-copy_from_slice-end c = let a = c.args in
    omega (arith, head_back a.sig.now a.pool.now a.tab.now a.y c.requires.5 a.out.now c.put-n.new.out c.requires.3 c.put-n.auto.out)

pub slice_bounds-copy_from_slice-end-2 : goal.slice_bounds-copy_from_slice-end-2
slice_bounds-copy_from_slice-end-2 c = let a = c.args in
    sym (length-take-le 5 _ (omega (arith, head_back a.sig.now a.pool.now a.tab.now a.y c.requires.5 a.out.now c.put-n.new.out c.requires.3 c.put-n.auto.out)))

pub copy_from_slice-requires : goal.copy_from_slice-requires
copy_from_slice-requires c = let a = c.args in
    length-take-le 5 _ (omega (arith, head_back a.sig.now a.pool.now a.tab.now a.y c.requires.5 a.out.now c.put-n.new.out c.requires.3 c.put-n.auto.out))

pub returns : goal.returns
returns c = let a = c.args in
    let w = bound_bytes a.sig.now a.pool.now a.tab.now a.y c.requires.5 in
    let same = c.put-n.ensures.0 in
    let long = bound_length a.sig.now a.pool.now a.tab.now a.y c.requires.5 in
    let short = length_part a.sig.now a.pool.now a.tab.now a.y c.requires.5 in
    let size_high : (c.put-n.result + 2) / 256 % 256 ≡ (length w + 2) / 256 = omega (arith, same, long, short, c.requires.4) in
    let size_low : (c.put-n.result + 2) % 256 ≡ (length w + 2) % 256 = omega (arith, same) in
    let item_high : c.item.result / 256 % 256 ≡ 128 = omega (arith, c.item.ensures, c.requires.2) in
    let item_low : c.item.result % 256 ≡ a.y = omega (arith, c.item.ensures, c.requires.2) in
    (omega (arith, same, long), field_put a.sig.now a.pool.now a.tab.now a.y c.requires.5 a.out.now c.put-n.new.out c.copy_from_slice.new.self c.requires.3 c.put-n.ensures.1 (rw (c.copy_from_slice.ensures.after, c.to_be_bytes-size.ensures, c.to_be_bytes-item.ensures, size_high, size_low, item_high, item_low) refl))
