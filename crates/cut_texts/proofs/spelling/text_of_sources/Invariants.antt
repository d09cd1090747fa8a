use Rattle.std.proofs.Common.{◌≡◌, take, string_bytes}
use Rattle.cut_texts.specs.Words.{cut_text}
use Rattle.cut_texts.proofs.spelling.text_of_sources.Given as goal

abbrev pub invariant-loop-place : goal.invariant-loop-place
invariant-loop-place l = string_bytes l.text ≡ cut_text (take l.place l.sources)
