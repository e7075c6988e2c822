-- A writer's buffer: room that is left, and bytes written into it.
use Rattle.std.specs.Prelude.{◌≡◌, List, ℕ, ◌+◌, ◌≤◌, length}
use Rattle.table_fields.specs.declared.writer.Writer.{Writer}
use Rattle.table_fields.specs.Writing.{Wrote}

-- So many bytes can still be written.
abbrev pub HasRoom : Writer → ℕ → Type 0
HasRoom w room = w.at + room ≤ length w.out.now

-- `Writes w s w'`: the bytes s are written, and the buffer is the one that was lent, as long as it was.
pub record Writes (w : Writer) (s : List ℕ) (w' : Writer) : Type 0 where
  pub same_buffer : w'.out.ghost_name ≡ w.out.ghost_name
  pub same_length : length w'.out.now ≡ length w.out.now
  pub wrote : Wrote w.out.now w.at s w'.at w'.out.now
