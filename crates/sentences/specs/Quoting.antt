-- What a sentence shows of a text, which may be any bytes of any length.
use Rattle.std.specs.Prelude.{ℕ, ◌-◌, ◌++◌, ◌∷◌, [], ◌==◌, ◌&&◌, ◌||◌, nat_lt, nat_le, Bool, false, cond, List, length, map, codes, chars}
use Rattle.std.specs.Char.{encode_utf8, is_ascii_alphanumeric}
use Rattle.std.specs.Fmt.{radix_digits}
use Rattle.std.specs.List.{list_all}
use Rattle.std.specs.Str.{is_utf8}

abbrev pub is_within : ℕ → ℕ → ℕ → Bool
is_within number first last = nat_le first number && nat_le number last

-- whether a character isn't seen, or turns the direction of those that follow
abbrev pub is_hidden : ℕ → Bool
is_hidden c =
    nat_lt c 32 || is_within c 127 159 || c == 173 || is_within c 8203 8207 || is_within c 8232 8238 || is_within c 8288 8303
    || c == 65279 || is_within c 917504 917631

-- a character by its number, as `\u{7f}`, or as it stands
abbrev pub escaped_hidden : ℕ → List ℕ
escaped_hidden c = cond (is_hidden c) (92 ∷ codes "u{" ++ (radix_digits 16 false c ++ codes "}")) (encode_utf8 c)

-- a quote and a backslash behind a backslash, three controls by their letters, and others
abbrev pub escaped : ℕ → List ℕ
escaped c =
    cond (c == 34) (92 ∷ 34 ∷ []) (cond (c == 92) (92 ∷ 92 ∷ []) (cond (c == 10) (92 ∷ codes "n") (cond (c == 13) (92 ∷ codes "r")
    (cond (c == 9) (92 ∷ codes "t") (escaped_hidden c)))))

-- a byte of what is no text: one above ASCII by its number, as `\xff`
abbrev pub escaped_byte : ℕ → List ℕ
escaped_byte byte = cond (nat_lt byte 128) (escaped byte) (92 ∷ codes "x" ++ radix_digits 16 false byte)

-- pieces as far as there is room for them, and a quote behind them; an ellipsis where there is more
abbrev pub cut : ℕ → List (List ℕ) → List ℕ
cut room [] = 34 ∷ []
cut room (piece ∷ pieces) = cond (nat_lt room (length piece)) (34 ∷ codes "...") (piece ++ cut (room - length piece) pieces)

-- a text in quotes, of at most so many bytes beside them
abbrev pub quoted : ℕ → List ℕ → List ℕ
quoted room bytes = 34 ∷ cut room (cond (is_utf8 bytes) (map escaped (chars bytes)) (map escaped_byte bytes))

abbrev pub is_word_byte : ℕ → Bool
is_word_byte byte = is_ascii_alphanumeric byte || byte == 95 || byte == 45 || byte == 43

-- whether a text is a word of at most so many bytes
abbrev pub is_word : ℕ → List ℕ → Bool
is_word room bytes = cond (length bytes == 0) false (cond (nat_lt room (length bytes)) false (list_all is_word_byte bytes))

-- a short word as it stands, and another text in quotes
abbrev pub label : ℕ → List ℕ → List ℕ
label room bytes = cond (is_word room bytes && is_utf8 bytes) bytes (quoted room bytes)
