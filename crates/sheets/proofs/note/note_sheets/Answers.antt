-- `note::note_sheets` meets its contract. Assumes nothing.
use Rattle.walks.specs.SheetTableLaws.{sheets_put, sheets_put_beside}
use Rattle.sheets.proofs.note.note_sheets.Goals as goal

pub returns : goal.returns
returns c =
    let t = c.sheet_table-sheets in
    let size = t.ensures.sheets_are.size in (
      rw c.put_table.ensures (sheets_put_beside t.result c.args.labels.now size c.requires.1.size),
      rw (c.put_table.ensures, sheets_put t.result c.args.labels.now size c.requires.1.size) t.ensures,
    )
