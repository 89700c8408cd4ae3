-- `call_export_objects::ObjectsRows::write` meets its contract: the words of the row's blocks are its fields. Assumes nothing.
use mathlib.Core.Path.{◌≡◌, ◌∙◌}
use native.Mathlib.Omega.{arith}
use lib.ListN.{length}
use Rattle.call_export_objects.proofs.Steps.{fits_range, follow_zero}
use Rattle.call_export_objects.proofs.Rows.{row_chained, row_words}
use Rattle.call_export_objects.proofs.ObjectsRows.write.Goals as goal

pub write_row-requires : goal.write_row-requires
write_row-requires c =
    let d = fits_range _ _ c.args.self.now.in_range in
    let z = follow_zero _ _ _ _ c.args.self.now.in_range c.requires.0 in
    let e : length c.args.row.now ≡ c.args.self.now.fields = c.requires.1 in
    (omega arith, rw e (row_chained _ _ _ z))

pub returns : goal.returns
returns c =
    let d = fits_range _ _ c.args.self.now.in_range in
    let z = follow_zero _ _ _ _ c.args.self.now.in_range c.requires.0 in
    let e : length c.args.row.now ≡ c.args.self.now.fields = c.requires.1 in
    c.write_row.ensures ∙ (rw e (row_words _ _ _ d.some d.most z))
