-- The texts of fields, one by one.
use Rattle.std.proofs.Common.{◌≡◌, ◌<◌, ◌+◌, ℕ, List, [], ◌∷◌, ◌++◌, length, take, drop, get_or, map, append_assoc, subst, Result, Ok, Err, ap, ◌∙◌, sym, refl}
use Rattle.std.proofs.lemmas.List.{take-map, map-append, take_more, take-append-drop}
use Rattle.std.specs.Borrow.{Bor}
use Rattle.asked_fields.specs.Asked.{with_text, all_of}
use Rattle.asked_fields.specs.declared.asked.AskedField.{AskedField}
use Rattle.json.specs.Json.{Members}
use Rattle.object_lines.specs.Members.{asked_text}
use Rattle.object_lines.specs.Records.{AreTexts}

abbrev pub bytes : Bor (List ℕ) → List ℕ
bytes n = n.now

pub next_name : (names : List (Bor (List ℕ))) (i : ℕ) (d : Bor (List ℕ)) → i < length names
    → take (i + 1) (map bytes names) ≡ take i (map bytes names) ++ (get_or names i d).now ∷ []
next_name names i d within =
    take-map bytes (i + 1) names ∙ ap (map bytes) (take_more names i d within) ∙ map-append bytes (take i names) (get_or names i d ∷ [])
    ∙ ap (λ (front : List (List ℕ)). front ++ (get_or names i d).now ∷ []) (sym (take-map bytes i names))

pub next_text : (ms : Members) (asked : List AskedField) (i : ℕ) (d field : AskedField) (text : List ℕ) (fields : List (List ℕ)) → i < length asked → field ≡ get_or asked i d
    → AreTexts ms (take i asked) fields → asked_text ms field ≡ Ok text → AreTexts ms (take (i + 1) asked) (fields ++ text ∷ [])
next_text ms asked i d field text fields within is so_far next =
    let there : asked_text ms (get_or asked i d) ≡ Ok text = subst (λ (f : AskedField). asked_text ms f ≡ Ok text) is next in
    rw (take_more asked i d within) (simp map-append (rw (so_far, there) refl))

-- of texts that are all there
pub all_there : {E : Type 0} (texts : List (List ℕ)) → all_of {E = E} (map Ok texts) ≡ Ok texts
all_there [] = refl
all_there (text ∷ texts) = ap (with_text text) (all_there texts)

-- and of such before a fault
pub fault_there : {E : Type 0} (texts : List (List ℕ)) (fault : E) (more : List (Result (List ℕ) E)) → all_of (map Ok texts ++ Err fault ∷ more) ≡ Err fault
fault_there [] fault more = refl
fault_there (text ∷ texts) fault more = ap (with_text text) (fault_there texts fault more)

-- one more text of a part
pub part_more : {E : Type 0} (f : List ℕ → Result (List ℕ) E) (names : List (Bor (List ℕ))) (i : ℕ) (d : Bor (List ℕ)) (texts : List (List ℕ)) (text : List ℕ) → i < length names
    → map f (take i (map bytes names)) ≡ map Ok texts → f (get_or names i d).now ≡ Ok text → map f (take (i + 1) (map bytes names)) ≡ map Ok (texts ++ text ∷ [])
part_more f names i d texts text within so_far next =
    rw (next_name names i d within) (simp map-append (rw (so_far, next) refl))

-- the first part that has no text
pub part_fault : {E : Type 0} (f : List ℕ → Result (List ℕ) E) (names : List (Bor (List ℕ))) (i : ℕ) (d : Bor (List ℕ)) (texts : List (List ℕ)) (fault : E) → i < length names
    → map f (take i (map bytes names)) ≡ map Ok texts → f (get_or names i d).now ≡ Err fault → all_of (map f (map bytes names)) ≡ Err fault
part_fault f names i d texts fault within so_far next =
    let all = map bytes names in
    let more = map f (drop (i + 1) all) in
    let front : map f (take (i + 1) all) ≡ map Ok texts ++ Err fault ∷ [] = rw (next_name names i d within) (simp map-append (rw (so_far, next) refl)) in
    let whole : map f all ≡ map Ok texts ++ Err fault ∷ more
    = ap (map f) (sym (take-append-drop (i + 1) all)) ∙ map-append f (take (i + 1) all) (drop (i + 1) all) ∙ ap (λ (rs : List (Result (List ℕ) _)). rs ++ more) front
    ∙ append_assoc (map Ok texts) (Err fault ∷ []) more in
    ap all_of whole ∙ fault_there texts fault more
