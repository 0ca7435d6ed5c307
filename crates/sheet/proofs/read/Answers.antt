-- The header decides first. Then the nodes aside are those of the sheet, so what the check says of them decides.
use native.Mathlib.Omega.{arith}
use lib.ListN.{length-take}
use Rattle.std.proofs.lemmas.Result.{err_from_is_err_and}
use Rattle.sheet.proofs.Calls.{header-few, header-room, read-header, read-refused, read-accepted}
use Rattle.sheet.proofs.read.Goals as goal

pub returns-in_err-header : goal.returns-in_err-header
returns-in_err-header c =
    let a = c.args in
    let p = err_from_is_err_and c.from_residual.result c.from_residual.ensures.1 in
    rw (p.1, p.2) (read-header a.sheet.now a.nodes.now _ c.in_err-header.ensures)

pub take_nodes-taken-requires : goal.take_nodes-taken-requires
take_nodes-taken-requires c = header-few c.args.sheet.now c.args.nodes.now _ c.in_ok-header.ensures

pub slice_bounds-taken-end : goal.slice_bounds-taken-end
slice_bounds-taken-end c = omega (arith, header-few c.args.sheet.now c.args.nodes.now _ c.in_ok-header.ensures)

pub slice_bounds-aside-end : goal.slice_bounds-aside-end
slice_bounds-aside-end c = simp length-take (omega (arith, header-few c.args.sheet.now c.args.nodes.now _ c.in_ok-header.ensures))

pub returns-in_err-check : goal.returns-in_err-check
returns-in_err-check c =
    let a = c.args in
    let p = err_from_is_err_and c.from_residual-in_err-check.result c.from_residual-in_err-check.ensures.1 in
    rw (p.1, p.2) (read-refused a.sheet.now a.nodes.now _ c.in_ok-header.ensures _ c.take_nodes-taken.ensures _ c.in_err-check.ensures)

pub slice_bounds-copy_from_slice-end : goal.slice_bounds-copy_from_slice-end
slice_bounds-copy_from_slice-end c = omega (arith, header-room c.args.sheet.now c.args.nodes.now _ c.in_ok-header.ensures)

pub slice_bounds-copy_from_slice-end-2 : goal.slice_bounds-copy_from_slice-end-2
slice_bounds-copy_from_slice-end-2 c = simp length-take (omega (arith, header-room c.args.sheet.now c.args.nodes.now _ c.in_ok-header.ensures))

pub copy_from_slice-requires : goal.copy_from_slice-requires
copy_from_slice-requires c =
    let a = c.args in
    simp length-take (omega (arith, header-few a.sheet.now a.nodes.now _ c.in_ok-header.ensures, header-room a.sheet.now a.nodes.now _ c.in_ok-header.ensures))

pub returns : goal.returns
returns c =
    let a = c.args in
    rw c.copy_from_slice.ensures.after
    (read-accepted a.sheet.now a.nodes.now _ c.in_ok-header.ensures _ c.take_nodes-taken.ensures _ c.in_ok-check.ensures)
