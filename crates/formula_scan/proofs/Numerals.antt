-- Numbers of any length in one word: a number that is over stays over with one more digit, and one that fits is its word.
use mathlib.Core.Path.{◌≡◌}
use mathlib.Core.Bool.{false}
use Prim.Native.Nat.{ℕ, ◌^◌, ◌<◌}
use native.Mathlib.Omega.{arith}
use lib.Dec.{leb}
use borrow.Author.Tests.{lt-leb}
use Rattle.formula_scan.specs.Readers.{kept}

pub kept_fits : (w v : ℕ) → v < 2 ^ w → kept w v ≡ v
kept_fits w v h = omega arith

pub fits : (v : ℕ) → v < 2 ^ 64 → (kept 64 v ≡ v) × (leb (2 ^ 64) v ≡ false)
fits v h = (kept_fits 64 v h, lt-leb (2 ^ 64) v h)
