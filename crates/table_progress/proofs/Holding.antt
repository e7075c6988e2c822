-- Bytes copied to the beginning of a buffer, and the bytes held of the line under way.
use mathlib.Core.Path.{◌≡◌, refl, sym, ap, ◌∙◌}
use mathlib.Core.List.{List, ◌++◌, append_assoc}
use Prim.Native.Nat.{ℕ, min, ◌+◌, ◌-◌, ◌≤◌}
use native.Mathlib.Omega.{arith}
use lib.ListN.{length, take, drop, length-append, length-take, length-drop, take-append-drop}
use lib.Seq.{length-take-le, drop-append-le, take-append-add}
use Rattle.std.proofs.lemmas.List.{take_min}
use Rattle.plan.proofs.RowLaws.{part, part_put, part-put, tail_part}
use Rattle.table_fields.specs.Writing.{Wrote}
use Rattle.table_fields.proofs.Joining.{wrote-from-start}
use Rattle.table_progress.specs.Steps.{over, held_with}

-- ---- a part of the first n elements is put back with other elements s for its first k
pub put_front : (s l : List ℕ) (k n : ℕ) → k ≤ n → n ≤ length l → s ++ drop k (take n l) ++ drop n l ≡ s ++ drop k l
put_front s l k n h inside =
    append_assoc s (drop k (take n l)) (drop n l)
    ∙ ap (λ r. s ++ r) (sym (drop-append-le k (take n l) (drop n l) (omega (arith, length-take-le n l inside))) ∙ ap (drop k) (take-append-drop n l))

-- What was written from the start on fits a buffer that stays as long.
pub wrote_fits : {l s m : List ℕ} {r : ℕ} → Wrote l 0 s r m → length m ≡ length l → r ≤ length l
wrote_fits {l} {s} w same =
    omega (arith, w.next, same, ap length (wrote-from-start w refl), length-append s (drop (length s) l), length-drop (length s) l)

pub rear_fits : (l : List ℕ) (at : ℕ) {s m : List ℕ} {r : ℕ} → at ≤ length l → Wrote (part at (length l) l) 0 s r m
    → length m ≡ length (part at (length l) l) → at + r ≤ length l
rear_fits l at h w same = omega (arith, wrote_fits w same, ap length (tail_part at l), length-drop at l)

-- A part of a buffer, filled with the bytes of a text.
module _ (at : ℕ) (l s : List ℕ) (end : ℕ) (e : end ≡ at + length s) (inside : end ≤ length l) where
  pub text-wrote : {new : List ℕ} → new ≡ s → Wrote l at s end (part_put at end l new)
  text-wrote put = record {
    bytes =
        ap (part_put at end l) put
        ∙ part-put at end l s (omega arith)
        ∙ append_assoc (take at l) s (drop end l)
        ∙ ap (λ n. take at l ++ (s ++ drop n l)) e;
    next = e;
  }

-- ---- bytes behind those that are held
module _ (held : ℕ) (line more : List ℕ) where
  -- So many bytes are held then, at the beginning of the buffer.
  abbrev pub Held : ℕ → List ℕ → Type 0
  Held r line' = (r ≡ length (held_with held line more)) × (line' ≡ over (held_with held line more) line)

  -- The part of the buffer behind the bytes held is filled with those that are held of the others.
  module _ (s : List ℕ) (end : ℕ) (e : end ≡ held + length s) (inside : end ≤ length line) where
    at_hand : length (take held line ++ s) ≡ end
    at_hand = omega (arith, length-append (take held line) s, length-take-le held line (omega arith))

    held_behind : {new : List ℕ} → held_with held line more ≡ take held line ++ s → new ≡ s
        → Held end (part_put held end line new)
    held_behind so put = (
      sym at_hand ∙ sym (ap length so),
      ap (part_put held end line) put
          ∙ part-put held end line s (omega arith)
          ∙ ap (λ n. take held line ++ s ++ drop n line) (sym at_hand)
          ∙ ap (λ r. over r line) (sym so),
    )

  module _ (h : held ≤ 4097) (long : 4097 ≤ length line) where
    length_held : length (take held line) ≡ held
    length_held = length-take-le held line (omega arith)

    -- All of the others, or only as many as there is room for.
    pub held_more : {taken : ℕ} {new : List ℕ} → taken ≡ min (4097 - held) (length more) → new ≡ take taken more
        → Held (held + taken) (part_put held (held + taken) line new)
    held_more {taken} e put = held_behind (take taken more) (held + taken) (omega (arith, whole)) (omega arith) most put
      where
        whole : length (take taken more) ≡ taken
        whole = length-take-le taken more (omega arith)

        room : 4097 ≡ length (take held line) + (4097 - held)
        room = omega (arith, length_held)

        most : held_with held line more ≡ take held line ++ take taken more
        most =
            ap (λ n. take n (take held line ++ more)) room
            ∙ take-append-add (take held line) more (4097 - held)
            ∙ ap (λ s. take held line ++ s) (sym (take_min (4097 - held) more) ∙ ap (λ n. take n more) (sym e))

  pub held_at_most : {r : ℕ} {line' : List ℕ} → Held r line' → r ≤ 4097
  held_at_most so = omega (arith, so.0, length-take 4097 (take held line ++ more))
