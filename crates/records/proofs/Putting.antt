-- Laws of writing lines from the front of a room on, one after the other.
-- Assumes nothing.
use mathlib.Core.Path.{◌≡◌, ◌∙◌, refl, sym, ap}
use mathlib.Core.List.{List, [], ◌∷◌, ◌++◌, append-nil, append_assoc}
use Prim.Native.Nat.{ℕ, zero, suc, ◌+◌, ◌-◌, ◌≤◌}
use native.Mathlib.Nat.{zero-add}
use native.Mathlib.Omega.{arith}
use borrow.Author.Tests.{le-leb}
use native.Mathlib.Numerals.{add-one}
use lib.ListN.{length, take, drop, take-append-drop, length-append, length-drop, drop_of_length-le}
use lib.Seq.{take-append_seam, drop-append-add, drop-drop, take-length, take_all}
use Rattle.lines.specs.Line.{line_of, in_front, encoded, EncodedAs}
use Rattle.records.specs.Record.{step_bytes, step_lines, written, PutAs}
use Rattle.records.specs.declared.Step.{Step}

-- a line that was encoded in front of the part of a room from a place on
pub put_part : (bytes room : List ℕ) (at : ℕ) {n : ℕ} {part : List ℕ} → at + length (line_of bytes) ≤ length room → EncodedAs bytes (take (length room - at) (drop at room)) n part →
    PutAs (line_of bytes) at room (at + n) (take at room ++ (part ++ drop (length room - at) (drop at room)))
unfolding encoded written
put_part bytes room at h e =
    let fits : length (line_of bytes) ≤ length (drop at room) = rw length-drop (omega arith) in
    let all : length (drop at room) ≤ length room - at = rw length-drop (omega arith) in
    let size = rw (take_all _ _ all, le-leb _ _ fits) at e.size in
    let held = rw (take_all _ _ all, le-leb _ _ fits) at e.room in
    record { next = rw size; room = rw (held, drop_of_length-le (drop at room) all, append-nil, drop-drop) }

-- a line behind what is in front
pub written-in_front : (done line room : List ℕ) → written line (length done) (in_front done room) ≡ in_front (done ++ line) room
unfolding written
written-in_front done line room =
    rw (take-append_seam, drop-append-add, drop-drop, length-append) (sym (append_assoc done line _))

pub step_lines_append : (xs ys : List Step) → step_lines (xs ++ ys) ≡ step_lines xs ++ step_lines ys
step_lines_append [] ys = refl
step_lines_append (x ∷ xs) ys = rw (step_lines_append xs ys, append_assoc)

-- one step more
take_more : (k : ℕ) (steps : List Step) {s : Step} {rest : List Step} → drop k steps ≡ s ∷ rest → take (suc k) steps ≡ take k steps ++ s ∷ []
take_more zero [] d = cc
take_more zero (x ∷ xs) d = cc
take_more (suc k) [] d = cc
take_more (suc k) (x ∷ xs) d = ap (x ∷◌) (take_more k xs d)

pub step_lines_more : (k : ℕ) (steps : List Step) {s : Step} {rest : List Step} → drop k steps ≡ s ∷ rest → step_lines (take (k + 1) steps) ≡ step_lines (take k steps) ++ line_of (step_bytes s)
step_lines_more k steps d = rw (add-one k, take_more k steps d, step_lines_append, append-nil)

-- the lines of k steps are written behind `front`
pub record Putting (front : List ℕ) (steps : List Step) (before : List ℕ) (k at : ℕ) (room : List ℕ) : Type 0 where
  pub place : at ≡ length (front ++ step_lines (take k steps))
  pub held : room ≡ in_front (front ++ step_lines (take k steps)) before

module _ (front : List ℕ) (steps : List Step) (before : List ℕ) where
  pub putting_starts : {at : ℕ} {room : List ℕ} → PutAs front 0 before at room → Putting front steps before 0 at room
  unfolding written
  putting_starts p = record { place = p.next ∙ rw (append-nil, zero-add); held = p.room ∙ rw (append-nil, zero-add) }

  module _ (k : ℕ) {at : ℕ} {room : List ℕ} (s : Step) (rest : List Step) (e : Putting front steps before k at room) (d : drop k steps ≡ s ∷ rest) where
    -- where all lines fit, the next one does
    pub putting-fits : length (front ++ step_lines steps) ≤ length before → at + length (line_of (step_bytes s)) ≤ length room
    putting-fits h =
        let done = front ++ step_lines (take k steps) in
        let line = line_of (step_bytes s) in
        let all : front ++ step_lines steps ≡ done ++ (line ++ step_lines rest)
        = ap (λ l. front ++ step_lines l) (sym (take-append-drop k steps)) ∙ rw (step_lines_append, d) (sym (append_assoc front _ _)) in
        let long : length (front ++ step_lines steps) ≡ length done + (length line + length (step_lines rest))
        = ap length all ∙ length-append done (line ++ step_lines rest) ∙ rw (length-append line (step_lines rest)) in
        let kept : length room ≡ length done + (length before - length done)
        = ap length e.held ∙ length-append done (drop (length done) before) ∙ rw (length-drop (length done) before) in
        omega arith

    pub putting_goes_on : {n : ℕ} {after : List ℕ} → PutAs (line_of (step_bytes s)) at room n after → Putting front steps before (k + 1) n after
    putting_goes_on p =
        let more : front ++ step_lines (take (k + 1) steps) ≡ (front ++ step_lines (take k steps)) ++ line_of (step_bytes s)
        = rw (step_lines_more k steps d) (sym (append_assoc front _ _)) in
        record {
          place = p.next ∙ rw (more, length-append, e.place);
          held = p.room ∙ rw (more, e.place, e.held) (written-in_front (front ++ step_lines (take k steps)) _ before);
        }

  pub putting_ends : {at : ℕ} {room : List ℕ} → Putting front steps before (length steps) at room → room ≡ in_front (front ++ step_lines steps) before
  putting_ends e = rw take-length at e.held
