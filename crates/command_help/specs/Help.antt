-- What `help` and `version` answer.
use Rattle.std.specs.Prelude.{ℕ, List, [], ◌++◌, codes}
use Rattle.command_runner.specs.Answer.{Answer, done}
use Rattle.exit_status.specs.declared.cause.Cause.{Cause}

-- the commands with their words, a line each, and where the formats are described
abbrev pub help_text : List ℕ
help_text =
    codes "spcwave renders SPC music files to WAV files. Its commands:\n" ++
    codes "\n" ++
    codes "  spcwave render SPC TABLE WAV [--samples N] [--trace FILE] [--voices HH] [--mute HH]: render a tune, and trace it on request\n" ++
    codes "  spcwave info SPC: show the tags and the registers of a tune\n" ++
    codes "  spcwave brr IN OUT: decode BRR blocks to a WAV file\n" ++
    codes "  spcwave encode WAV BRR [--loop] [--loop-at SAMPLE] [--search WIDTH]: encode a WAV file to BRR blocks\n" ++
    codes "  spcwave demo NUMBER OUT: make a tune from a number\n" ++
    codes "  spcwave check NUMBER: render that tune for ten seconds, and print sums over its frames\n" ++
    codes "  spcwave asm IN ORIGIN OUT: assemble a program of the SPC700\n" ++
    codes "  spcwave dis IN ORIGIN OUT: list a program of the SPC700\n" ++
    codes "  spcwave rip SPC PREFIX [--range AABB]: write the samples of a tune to WAV files\n" ++
    codes "  spcwave cuts SPC TABLE LIST WAV [--mute HH]: join the cuts of a tune that a list says\n" ++
    codes "  spcwave serve SPC TABLE SCRIPT WAV [--pages N] [--mute HH]: seek, play, mark and drop in a tune as a script says\n" ++
    codes "  spcwave help: print this text; --help does so too\n" ++
    codes "  spcwave version: print the number of the version; --version does so too\n" ++
    codes "\n" ++
    codes "The manual page spcwave(1) and docs/FORMATS.md describe files, texts and exit statuses.\n"

-- the program's name and number
abbrev pub version_text : List ℕ
version_text = codes "spcwave 1.2.0\n"

abbrev pub help_answer : Answer Cause
help_answer = done [] help_text

abbrev pub version_answer : Answer Cause
version_answer = done [] version_text
