use Rattle.std.proofs.Common.{rules, All}
use Rattle.std.specs.Option.{option_copied}
use Rattle.text_places.specs.Parts.{IsPartOf}
use Rattle.place_notes.proofs.Finding.{is_member}
use Rattle.place_notes.proofs.seeing.member_of.Goals as goal

pub returns : goal.returns
returns c =
    let all : All (IsPartOf c.args.object.now.spots.now) c.deref.result.now = rw c.deref.ensures.value c.in_ok-parts.ensures in
    let found = is_member c.args.object.now c.args.name.now c.deref.result.now all (option_copied c.part_named.result) c.part_named.ensures in
    search (rules, found)
