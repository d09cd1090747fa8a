use Rattle.std.proofs.Common.{◌≡◌, ◌++◌, take, string_bytes}
use Rattle.cut_texts.specs.Words.{source_text}
use Rattle.cut_texts.proofs.spelling.push_source.Given as goal

abbrev pub invariant-loop-place : goal.invariant-loop-place
invariant-loop-place l = string_bytes l.text ≡ string_bytes l.fn.text ++ source_text (take l.place l.counts)
