-- The page of a code.
use Rattle.std.specs.Prelude.{◌≡◌, ℕ, List, Bool, Option, Some, None, Result, Ok, Err, IsSome, map, option_map, bytes_eq}
use Rattle.std.specs.Option.{option_or}
use Rattle.std.specs.List.{find}
use Rattle.std.specs.Char.{to_ascii_lowercase}
use Rattle.std.specs.Io.KnownBytes.{Appends}
use Rattle.fault_pages.specs.declared.import_pages.TheConstants.{IMPORT_PAGES}
use Rattle.fault_pages.specs.declared.other_pages.TheConstants.{OTHER_PAGES}
use Rattle.fault_pages.specs.declared.savepoint_pages.TheConstants.{SAVEPOINT_PAGES}
use Rattle.fault_pages.specs.declared.text_pages.TheConstants.{TEXT_PAGES}
use Rattle.user_texts.specs.declared.writing.TextFault.{TextFault}
use Rattle.user_texts.specs.declared.writing.TextFault.TheVariants.{NoPage, Write}

-- two words are one code, whether their letters are capital or small
abbrev pub same_code : List ℕ → List ℕ → Bool
same_code a b = bytes_eq (map to_ascii_lowercase a) (map to_ascii_lowercase b)

-- the text of the first page with a code; a page is its code and its text
unfoldable pub page_said : List (List ℕ × List ℕ) → List ℕ → Option (List ℕ)
page_said pages code = option_map (λ page. page.1) (find (λ page. same_code page.0 code) pages)

-- the text of the page of a code in docs/FAULTS.md, which is made into four tables: the faults of texts, of imports, of
-- savepoints, and all others
unfoldable pub last_explained : List ℕ → Option (List ℕ)
last_explained code = option_or (page_said (map (λ page. (page.0.now, page.1.now)) SAVEPOINT_PAGES) code) (page_said (map (λ page. (page.0.now, page.1.now)) OTHER_PAGES) code)

unfoldable pub later_explained : List ℕ → Option (List ℕ)
later_explained code = option_or (page_said (map (λ page. (page.0.now, page.1.now)) IMPORT_PAGES) code) (last_explained code)

unfoldable pub explained : List ℕ → Option (List ℕ)
explained code = option_or (page_said (map (λ page. (page.0.now, page.1.now)) TEXT_PAGES) code) (later_explained code)

-- Ok and the page written, no page with the code, or a page that could not be written
abbrev pub TellsPage : Option (List ℕ) → Result (Unit {0}) TextFault → Option (List ℕ) → Option (List ℕ) → Type 0
TellsPage (Some text) (Ok _) old new = Appends old new text
TellsPage None (Ok _) old new = ⊥
TellsPage said (Err NoPage) old new = (said ≡ None) × (new ≡ old)
TellsPage said (Err Write) old new = IsSome said
