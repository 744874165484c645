-- The window of memory in which the echo buffer lies.
use Rattle.std.specs.Prelude.{ℕ, ◌*◌, ◌%◌, max}
use Rattle.aram_core.specs.declared.window.Window.{Window}

-- the bytes of echo that the register EDL asks for: its low four bits count units of 2,048 bytes
abbrev pub echo_length : (edl : ℕ) → ℕ
echo_length edl = edl % 16 * 0x800

-- Where the echo can stand: from page ESA on the bytes of the length in force or of the length that EDL asks for,
-- whichever is more, and at least one cell of four bytes.
abbrev pub echo_window : (esa edl length : ℕ) → Window
echo_window esa edl length = record { start = esa * 0x100; len = max (max length (echo_length edl)) 4 }
