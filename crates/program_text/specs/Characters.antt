-- The characters between words and behind a line, in ASCII.
use Rattle.std.specs.Prelude.{ℕ}

-- a blank
abbrev pub blank : ℕ
blank = 32

-- the end of a line
abbrev pub newline : ℕ
newline = 10
