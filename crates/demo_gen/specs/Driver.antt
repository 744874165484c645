-- The program of the file (opcodes: Anomie's SPC700 Doc), and what the registers of the S-DSP are when it begins
-- (their names: Anomie's S-DSP Doc); which values they have is own.
use Rattle.std.specs.Prelude.{ℕ, List, [], ◌∷◌, ◌++◌}

-- it starts timer 0 with a period of 16; each time that the timer has counted, it writes the next register of the S-DSP,
-- puts the next byte into the samples from their second byte on, and shows at port 0 how many writes there were
abbrev pub driver : List ℕ
driver =
    0x8F ∷ 0x10 ∷ 0xFA ∷ []  -- 0400: MOV FAh, #10h
    ++ 0x8F ∷ 0x01 ∷ 0xF1 ∷ []  -- 0403: MOV F1h, #01h
    ++ 0xCD ∷ 0x00 ∷ []  -- 0406: MOV X, #00h
    ++ 0x8D ∷ 0x00 ∷ []  -- 0408: MOV Y, #00h
    ++ 0xE4 ∷ 0xFD ∷ []  -- 040A: MOV A, FDh
    ++ 0xF0 ∷ 0xFC ∷ []  -- 040C: BEQ 040Ah
    ++ 0xF5 ∷ 0x00 ∷ 0x20 ∷ []  -- 040E: MOV A, !2000h+X
    ++ 0xC4 ∷ 0xF2 ∷ []  -- 0411: MOV F2h, A
    ++ 0xF5 ∷ 0x00 ∷ 0x21 ∷ []  -- 0413: MOV A, !2100h+X
    ++ 0xC4 ∷ 0xF3 ∷ []  -- 0416: MOV F3h, A
    ++ 0xF6 ∷ 0x00 ∷ 0x22 ∷ []  -- 0418: MOV A, !2200h+Y
    ++ 0xD6 ∷ 0x01 ∷ 0x10 ∷ []  -- 041B: MOV !1001h+Y, A
    ++ 0xFC ∷ []  -- 041E: INC Y
    ++ 0x3D ∷ []  -- 041F: INC X
    ++ 0xD8 ∷ 0xF4 ∷ []  -- 0420: MOV F4h, X
    ++ 0x2F ∷ 0xE6 ∷ []  -- 0422: BRA 040Ah

-- sixteen registers: VOLL, VOLR, PITCHL, PITCHH, SRCN, ADSR1, ADSR2 and GAIN of a voice, and in the columns C, D and F
-- those that are not of a voice
abbrev pub register_row : (voice column_c column_d column_f : ℕ) → List ℕ
register_row voice column_c column_d column_f =
    0x40 ∷ 0x40 ∷ 0x00 ∷ 0x10 ∷ voice ∷ 0x8F ∷ 0xE0 ∷ 0x7F
    ∷ 0 ∷ 0 ∷ 0 ∷ 0 ∷ column_c ∷ column_d ∷ 0 ∷ column_f ∷ []

abbrev pub dsp_registers : List ℕ
dsp_registers =
    register_row 0 0x60 0x40 0x7F  -- MVOLL, EFB, C0
    ++ register_row 1 0x60 0 0  -- MVOLR
    ++ register_row 2 0x30 0 0  -- EVOLL
    ++ register_row 3 0x30 0 0  -- EVOLR
    ++ register_row 4 0xFF 0xFF 0  -- KON, EON
    ++ register_row 5 0 0x02 0  -- DIR
    ++ register_row 6 0 0x80 0  -- ESA
    ++ register_row 7 0 0x04 0  -- EDL
