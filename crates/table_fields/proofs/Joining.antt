-- Writes one behind the other: two are one write of both texts, and what stands in front of the next place.
use mathlib.Core.Path.{◌≡◌, refl, sym, ap, ap₂, ◌∙◌, subst}
use mathlib.Core.List.{List, [], ◌++◌, append_assoc}
use Prim.Native.Nat.{ℕ, ◌+◌, ◌≤◌}
use native.Mathlib.Nat.{add-zero, zero-add}
use native.Mathlib.Omega.{arith}
use lib.ListN.{length, take, drop, length-append, take-append-drop}
use lib.Seq.{length-take-le, take_at, drop-append-add, drop-drop}
use Rattle.table_fields.specs.Writing.{Wrote}
use Rattle.table_fields.specs.Writer.{Writes}
use Rattle.table_fields.specs.declared.writer.Writer.{Writer}

-- ---- a write of no byte, and of a text that is known under another name
pub wrote_nothing : (l : List ℕ) (at : ℕ) → Wrote l at [] at l
wrote_nothing l at = record { bytes = sym (ap (λ n. take at l ++ drop n l) (add-zero at) ∙ take-append-drop at l); next = omega arith }

pub wrote_same : {l s t m : List ℕ} {at r : ℕ} → s ≡ t → Wrote l at s r m → Wrote l at t r m
wrote_same {l} {m = m} {at} {r} e w = subst (λ x. Wrote l at x r m) e w

-- ---- one write
module _ {l s m : List ℕ} {at r : ℕ} (w : Wrote l at s r m) where
  pub wrote-from-start : at ≡ 0 → m ≡ s ++ drop (length s) l
  wrote-from-start e = w.bytes ∙ ap₂ (λ n k. take n l ++ (s ++ drop k l)) e (ap (λ n. n + length s) e ∙ zero-add (length s))

  -- What stood in front still does, and then the text.
  pub wrote_front : at ≤ length l → take r m ≡ take at l ++ s
  wrote_front h =
      ap (λ x. take r x) (w.bytes ∙ sym (append_assoc (take at l) s (drop (at + length s) l)))
      ∙ take_at (take at l ++ s) (drop (at + length s) l) r
      (length-append (take at l) s ∙ ap (λ n. n + length s) (length-take-le at l h) ∙ sym w.next)

  -- What stands behind is as it was.
  pub wrote-behind : at ≤ length l → (k : ℕ) → drop (r + k) m ≡ drop (at + length s + k) l
  wrote-behind h k =
      ap₂ (λ n x. drop n x) place (w.bytes ∙ sym (append_assoc (take at l) s (drop (at + length s) l)))
      ∙ drop-append-add (take at l ++ s) (drop (at + length s) l) k
      ∙ drop-drop k (at + length s) l
    where
      place : r + k ≡ length (take at l ++ s) + k
      place = omega (arith, w.next, length-append (take at l) s, length-take-le at l h)

-- ---- two writes, the second behind the first, are one
pub joined : {l s t m n : List ℕ} {at r q : ℕ} → at ≤ length l → Wrote l at s r m → Wrote m r t q n → Wrote l at (s ++ t) q n
joined {l} {s} {t} {m} {n} {at} {r} {q} h w v = record {
  bytes =
      v.bytes
      ∙ ap₂ (λ x y. x ++ (t ++ y)) (wrote_front w h) (wrote-behind w h (length t) ∙ ap (λ k. drop k l) both)
      ∙ append_assoc (take at l) s (t ++ drop (at + length (s ++ t)) l)
      ∙ ap (λ x. take at l ++ x) (sym (append_assoc s t (drop (at + length (s ++ t)) l)));
  next = omega (arith, w.next, v.next, length-append s t);
}
  where
    both : at + length s + length t ≡ at + length (s ++ t)
    both = omega (arith, length-append s t)

-- ---- a writer
pub none_written : (w : Writer) → Writes w [] w
none_written w = record { same_buffer = refl; same_length = refl; wrote = wrote_nothing w.out.now w.at }

pub written_as : {w v : Writer} {s t : List ℕ} → s ≡ t → Writes w s v → Writes w t v
written_as e h = record { same_buffer = h.same_buffer; same_length = h.same_length; wrote = wrote_same e h.wrote }

pub both_written : {w v u : Writer} {s t : List ℕ} → w.at ≤ length w.out.now → Writes w s v → Writes v t u → Writes w (s ++ t) u
both_written room h k = record {
  same_buffer = k.same_buffer ∙ h.same_buffer;
  same_length = k.same_length ∙ h.same_length;
  wrote = joined room h.wrote k.wrote;
}
