use Rattle.std.proofs.Common.{◌∙◌}
use Rattle.sheet.specs.Tables.{memory}
use Rattle.sheet.proofs.Accepting.{same_refused}
use Rattle.sheet.proofs.Rooms.{entry_room}
use Rattle.sheet.proofs.Writing.{wrote_holds}
use Rattle.sheet.proofs.Keeping.{wrote_rest}
use Rattle.sheet.proofs.sheet.Sheet.write.Goals as goal

pub put_entry-requires : goal.put_entry-requires
put_entry-requires c =
    let p = c.requires.ready in
    entry_room (memory c.args.self.now) p.0 p.1 c.requires.long c.args.entry.now p.3

pub returns : goal.returns
returns c =
    let m = memory c.args.self.now in
    let m' = memory c.put_entry.new.self in
    let e = c.args.entry.now in
    let p = c.requires.ready in
    let room = entry_room m p.0 p.1 c.requires.long e p.3 in
    record {
      holds = λ σ h. wrote_holds m σ h c.args.made e m' p.2 (same_refused m σ p.0 e h p.1 ∙ p.3) room c.put_entry.ensures;
      rest = wrote_rest m c.args.made e m' room c.put_entry.ensures;
    }
