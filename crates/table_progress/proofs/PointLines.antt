-- Point lines, one written behind the other.
use mathlib.Core.Path.{◌≡◌, sym, ap, ◌∙◌}
use mathlib.Core.List.{List, [], ◌∷◌, ◌++◌, append-nil, append_assoc}
use Prim.Native.Nat.{ℕ, suc, ◌+◌, ◌≤◌, ◌<◌}
use native.Mathlib.Nat.{add-zero, zero-add}
use native.Mathlib.Numerals.{add-one}
use native.Mathlib.Omega.{arith}
use lib.ListN.{length, get_or, take}
use lib.Seq.{length-take-le, take-suc}
use Rattle.table_fields.specs.declared.writer.Writer.{Writer}
use Rattle.table_fields.specs.Writer.{Writes}
use Rattle.table_fields.proofs.Joining.{written_as, both_written}
use Rattle.table.specs.Lines.{point_line, point_lines}

-- The last of several point lines.
last_point : (i : ℕ) (s : List ℕ) (v : ℕ) → point_lines i (s ++ v ∷ []) ≡ point_lines i s ++ point_line (i + length s) v
unfolding point_lines
last_point i [] v = append-nil (point_line i v) ∙ ap (λ k. point_line k v) (sym (add-zero i))
last_point i (x ∷ s) v =
    ap (λ l. point_line i x ++ l) (last_point (suc i) s v)
    ∙ ap (λ k. point_line i x ++ (point_lines (suc i) s ++ point_line k v)) count
    ∙ sym (append_assoc (point_line i x) (point_lines (suc i) s) (point_line (i + suc (length s)) v))
  where
    count : suc i + length s ≡ i + suc (length s)
    count = omega arith

-- The lines of the first i words, and the line of word i behind them.
pub point_next : {w v u : Writer} (table : List ℕ) (i : ℕ) → w.at ≤ length w.out.now → i < length table
    → Writes w (point_lines 0 (take i table)) v → Writes v (point_line i (get_or table i 0)) u → Writes w (point_lines 0 (take (i + 1) table)) u
point_next table i room h before line = written_as (sym lines) (both_written room before line)
  where
    count : 0 + length (take i table) ≡ i
    count = zero-add (length (take i table)) ∙ length-take-le i table (omega arith)

    lines : point_lines 0 (take (i + 1) table) ≡ point_lines 0 (take i table) ++ point_line i (get_or table i 0)
    lines =
        ap (λ k. point_lines 0 (take k table)) (add-one i)
        ∙ ap (λ s. point_lines 0 s) (take-suc table i 0 h)
        ∙ last_point 0 (take i table) (get_or table i 0)
        ∙ ap (λ k. point_lines 0 (take i table) ++ point_line k (get_or table i 0)) count
