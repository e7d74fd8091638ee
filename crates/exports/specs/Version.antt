-- A version as one number. The contract of `gimletsorrel_version` cites it. Assumes nothing: this is a definition.
use Rattle.std.specs.Prelude.{ℕ, ◌+◌, ◌*◌}

abbrev pub version_number : (major minor patch : ℕ) → ℕ
version_number major minor patch = 10000 * major + 100 * minor + patch
