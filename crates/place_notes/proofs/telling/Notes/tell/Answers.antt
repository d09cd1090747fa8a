use Rattle.std.proofs.Common.{rules, ◌≡◌, false}
use Rattle.place_notes.specs.Notes.{is_passed}
use Rattle.place_notes.proofs.telling.Notes.tell.Goals as goal

pub returns-clause-told : goal.returns-clause-told
returns-clause-told c =
    let more : is_passed c.args.offset c.args.self.now ≡ false = search rules in
    rw more (c.in_ok-sentence.sentence, search rules, search rules)
