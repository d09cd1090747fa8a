-- What is asked of an entry, one after another.
use Rattle.std.proofs.Common.{◌≡◌, ◌&&◌, ℕ, true}
use Rattle.std.proofs.lemmas.Bool.{and_parts}
use Rattle.input_texts.specs.declared.text.EntryText.{EntryText}
use Rattle.input_texts.specs.Requirements.{is_wide, is_whole, is_sized, is_timely}
use Rattle.stream_input.specs.Fit.{is_fit}

pub record Asked (columns time : ℕ) (e : EntryText) : Type 0 where
  pub wide : is_wide columns e ≡ true
  pub whole : is_whole e ≡ true
  pub sized : is_sized e ≡ true
  pub timely : is_timely time e ≡ true

pub asked : (columns time : ℕ) (e : EntryText) → is_fit columns time e ≡ true → Asked columns time e
asked columns time e h =
    let three = and_parts (is_wide columns e && is_whole e && is_sized e) (is_timely time e) h in
    let two = and_parts (is_wide columns e && is_whole e) (is_sized e) three.0 in
    let one = and_parts (is_wide columns e) (is_whole e) two.0 in
    record { wide = one.0; whole = one.1; sized = two.1; timely = three.1 }
