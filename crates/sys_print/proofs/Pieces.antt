-- The pieces of a print.
use Rattle.std.proofs.Common.{◌≡◌, ℕ, ◌<◌, List, [], ◌∷◌, length, take, drop, min, refl, ap, ◌∙◌, arith, encode_utf8_all}
use Rattle.std.proofs.lemmas.List.{take_min, drop_min}
use Rattle.system_model.specs.World.{World, free_tag, begin_wait}
use Rattle.system_model.specs.Prints.{Request, Requests, twrite, ask_piece, go_on, print}

pub asks_piece : (w v : World) (m : Request) (tag written : ℕ) (bytes piece left : List ℕ) →
    tag ≡ free_tag w.links.console → piece ≡ take (min 8192 (length bytes)) bytes → left ≡ drop (min 8192 (length bytes)) bytes →
    m ≡ twrite w tag piece → v ≡ begin_wait tag w →
    Requests v m (record { tag = tag; written = written; asked = length piece; left = left }) ≡ ask_piece w written bytes
asks_piece w v m tag written bytes piece left is_tag is_piece is_left is_request is_world =
    let piece_is : piece ≡ take 8192 bytes = is_piece ∙ take_min 8192 bytes in
    let left_is : left ≡ drop 8192 bytes = is_left ∙ drop_min 8192 bytes in
    ap (λ v. Requests v m (record { tag = tag; written = written; asked = length piece; left = left })) is_world
    ∙ ap (λ m. Requests (begin_wait tag w) m (record { tag = tag; written = written; asked = length piece; left = left })) is_request
    ∙ ap (λ left. Requests (begin_wait tag w) (twrite w tag piece) (record { tag = tag; written = written; asked = length piece; left = left })) left_is
    ∙ ap (λ piece. Requests (begin_wait tag w) (twrite w tag piece) (record { tag = tag; written = written; asked = length piece; left = drop 8192 bytes })) piece_is
    ∙ ap (λ tag. Requests (begin_wait tag w) (twrite w tag (take 8192 bytes)) (record { tag = tag; written = written; asked = length (take 8192 bytes); left = drop 8192 bytes })) is_tag

pub goes_on : (w : World) (total : ℕ) (left : List ℕ) → 0 < length left → go_on w total left ≡ ask_piece w total left
goes_on w total [] h = absurd (omega arith)
goes_on w total (b ∷ bs) h = refl

pub prints_some : (w : World) (text : List ℕ) → 0 < length text → print w text ≡ ask_piece w 0 (encode_utf8_all text)
prints_some w [] h = absurd (omega arith)
prints_some w (c ∷ cs) h = refl
