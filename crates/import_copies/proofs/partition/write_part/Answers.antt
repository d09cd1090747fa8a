use Rattle.std.proofs.Common.{◌≡◌, map, length, subst, ap, refl, ◌∙◌, arith}
use Rattle.std.specs.Io.KnownBytes.{Appends}
use Rattle.std.proofs.lemmas.List.{get_or_read_under}
use Rattle.dealt_texts.specs.Parts.{Growing, nothing}
use Rattle.dealt_texts.specs.Steps.{text_at}
use Rattle.dealt_texts.specs.Texts.{texts_of}
use Rattle.import_copies.specs.Streams.{stream_at}
use Rattle.import_copies.proofs.Writing.{one_part}
use Rattle.import_copies.proofs.partition.write_part.Goals as goal

pub returns-clause-writes : goal.returns-clause-writes
returns-clause-writes g c rows start h =
    let p = c.args.parts.now in
    let q = c.clear_text.new.self in
    let place = c.args.place in
    let now = map g.W.Write.contents c.args.outs.now in
    let end = map g.W.Write.contents c.write_at.new.outs in
    let text = (text_at (texts_of p) place).text in
    let part = c.index-texts-place-2.result in
    let is : part ≡ text_at (texts_of p) place = get_or_read_under c.texts-2.result.now place _ part nothing c.index-texts-place-2.is (omega (arith, ap length c.texts.ensures, ap length c.texts-2.ensures)) refl ∙ ap (λ ts. text_at ts place) c.texts-2.ensures in
    let same : c.as_bytes.result.now ≡ text = c.as_bytes.ensures.value ∙ c.text-2.ensures ∙ ap (λ (g : Growing). g.text) is in
    one_part rows start now end place text p q (c.clear_text.ensures.taken rows)
    (subst (Appends (stream_at now place) (stream_at end place)) same c.in_ok-write_at.ensures.here) c.in_ok-write_at.ensures.others c.clear_text.ensures.dealing h
