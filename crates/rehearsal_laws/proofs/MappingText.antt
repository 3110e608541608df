-- The text of a mapping of two clips of the movie is read as it is meant.
use Rattle.std.proofs.Common.{◌≡◌, ℕ, ◌^◌, ◌<◌, ◌≤◌, List, [], ◌∷◌, ◌++◌, true, Some, None, Ok, refl, sym, ap, ◌∙◌, arith, append_assoc, append-nil}
use Rattle.std.specs.Prelude.{codes, decimal, nat_le, sum, option_and_then}
use Rattle.std.specs.Char.{is_ascii_digit}
use Rattle.std.specs.Int.{is_in_range}
use Rattle.std.specs.List.{All, list_all}
use Rattle.std.specs.Str.{IsAscii, is_utf8, chars}
use Rattle.std.specs.Char.{encode_utf8}
use Rattle.std.proofs.lemmas.Bool.{le-leb}
use Rattle.std.proofs.lemmas.Bool.Decides.{nat_tests}
use Rattle.std.proofs.lemmas.List.Elements.{All-nil, All-cons}
use Rattle.std.proofs.lemmas.Str.{IsAscii-append, IsUtf8-from_ascii, is_utf8-from_IsUtf8}
use Rattle.std.proofs.lemmas.Str.Ascii.{IsAscii-from_all}
use Rattle.json.specs.Json as json
use Rattle.json.specs.Lex.{tokens}
use Rattle.json.specs.Tree.{json_tokens}
use Rattle.json.specs.Print.{print, print_from, escape_byte, ArePrintable}
use Rattle.json.proofs.Printed.Decimals.{IsNumber-decimal}
use Rattle.json.proofs.Printed.Tokens.{tokens-print}
use Rattle.json.proofs.Printed.Trees.{value-json_tokens}
use Rattle.serde_json.specs.Data.{Data, unsigned, number, string, array, object, no_items, item, no_members, member}
use Rattle.serde_json.specs.Read.{read, of_json}
use Rattle.serde_json.proofs.Numbers.{number_of-decimal}
use Rattle.vod_types.specs.Json.{json_value}
use Rattle.vod_types.specs.Files.{file_name, is_file_name}
use Rattle.vod_types.proofs.NumberLemmas.{all_digits_decimal}
use Rattle.vod_types.proofs.NumberRules.{list_all-digits}
use Rattle.clip_model.specs.Mapping.{Mapping, Sequence, Clip, source}
use Rattle.clip_model.specs.Members.{source_clip, concat_clip}
use Rattle.clip_model.specs.Walk.{mapping_of, mapping_of_object, sequence_of, clip_of}

-- ---- the text is that of a tree

abbrev source_tree : json.Members → json.Json
source_tree more = json.object (json.member (codes "type") (json.string (codes "source")) (json.member (codes "path") (json.string (codes "/m.mp4")) more))

-- the lengths of two clips of the movie, the second of which begins at a time
abbrev tree : ℕ → ℕ → ℕ → json.Json
tree a b f =
    json.object (json.member (codes "durations") (json.array (json.item (json.number (decimal a)) (json.item (json.number (decimal b)) json.no_items)))
    (json.member (codes "sequences") (json.array (json.item (json.object (json.member (codes "clips") (json.array (json.item (source_tree json.no_members)
    (json.item (source_tree (json.member (codes "clipFrom") (json.number (decimal f)) json.no_members)) json.no_items))) json.no_members)) json.no_items)) json.no_members))

abbrev pub between : List ℕ
between = codes "],\"sequences\":[{\"clips\":[{\"type\":\"source\",\"path\":\"/m.mp4\"},{\"type\":\"source\",\"path\":\"/m.mp4\",\"clipFrom\":"

abbrev pub mapping_text : ℕ → ℕ → ℕ → List ℕ
mapping_text a b f = codes "{\"durations\":[" ++ decimal a ++ codes "," ++ decimal b ++ between ++ decimal f ++ codes "}]}]}"

text-printed : (a b f : ℕ) → mapping_text a b f ≡ print (json_tokens (tree a b f))
unfolding print_from escape_byte
text-printed a b f = simp append_assoc

printable : (a b f : ℕ) → a < 2 ^ 64 → b < 2 ^ 64 → f < 2 ^ 64 → ArePrintable (json_tokens (tree a b f))
unfolding ArePrintable
printable a b f ha hb hf =
    (tt, (tt, (tt, (IsNumber-decimal a ha, (IsNumber-decimal b hb, (tt, (tt, (tt, (tt, (tt, (tt, (tt, (tt, (tt, (tt, (tt, (tt, (tt, (tt, (tt, (tt, (tt, (tt, (IsNumber-decimal f hf, (tt, (tt, (tt, (tt, (tt, tt)))))))))))))))))))))))))))))

-- ---- it is ASCII

all_below : (bs : List ℕ) → list_all (λ b. nat_le b 127) bs ≡ true → All (λ b. b < 128) bs
all_below [] all = All-nil (λ b. b < 128)
all_below (b ∷ bs) all =
    let parts : (nat_le b 127 ≡ true) × (list_all (λ c. nat_le c 127) bs ≡ true) = grind arith in
    let here : b < 128 = let h = parts.0 in grind (arith, nat_tests) in
    All-cons (λ c. c < 128) b bs here (all_below bs parts.1)

ascii_by : (bs : List ℕ) → list_all (λ b. nat_le b 127) bs ≡ true → IsAscii bs
ascii_by bs all = IsAscii-from_all bs (all_below bs all)

digits_below : (ds : List ℕ) → list_all is_ascii_digit ds ≡ true → list_all (λ b. nat_le b 127) ds ≡ true
digits_below [] all = refl
digits_below (d ∷ ds) all =
    let parts : (is_ascii_digit d ≡ true) × (list_all is_ascii_digit ds ≡ true) = grind arith in
    let here : nat_le d 127 ≡ true = let h = parts.0 in grind (arith, nat_tests) in
    rw (here, digits_below ds parts.1) refl

ascii_decimal : (n : ℕ) → n < 2 ^ 64 → IsAscii (decimal n)
ascii_decimal n h = ascii_by (decimal n) (digits_below (decimal n) (list_all-digits (decimal n) ∙ all_digits_decimal n h))

ascii_text : (a b f : ℕ) → a < 2 ^ 64 → b < 2 ^ 64 → f < 2 ^ 64 → IsAscii (mapping_text a b f)
ascii_text a b f ha hb hf =
    let s1 : List ℕ = codes "{\"durations\":[" in
    let s2 : List ℕ = s1 ++ decimal a in
    let s3 : List ℕ = s2 ++ codes "," in
    let s4 : List ℕ = s3 ++ decimal b in
    let s5 : List ℕ = s4 ++ between in
    let s6 : List ℕ = s5 ++ decimal f in
    let a2 : IsAscii s2 = IsAscii-append s1 (decimal a) (ascii_by s1 refl) (ascii_decimal a ha) in
    let a3 : IsAscii s3 = IsAscii-append s2 (codes ",") a2 (ascii_by (codes ",") refl) in
    let a4 : IsAscii s4 = IsAscii-append s3 (decimal b) a3 (ascii_decimal b hb) in
    let a5 : IsAscii s5 = IsAscii-append s4 between a4 (ascii_by between refl) in
    let a6 : IsAscii s6 = IsAscii-append s5 (decimal f) a5 (ascii_decimal f hf) in
    IsAscii-append s6 (codes "}]}]}") a6 (ascii_by (codes "}]}]}") refl)

-- ---- its value

abbrev mapping_data : ℕ → ℕ → ℕ → Data
mapping_data a b f =
    object (member (codes "durations") (array (item (number (unsigned a)) (item (number (unsigned b)) no_items)))
    (member (codes "sequences") (array (item (object (member (codes "clips") (array
    (item (object (member (codes "path") (string (codes "/m.mp4")) (member (codes "type") (string (codes "source")) no_members)))
    (item (object (member (codes "clipFrom") (number (unsigned f)) (member (codes "path") (string (codes "/m.mp4")) (member (codes "type") (string (codes "source")) no_members))))
    no_items))) no_members)) no_items)) no_members))

tree_is : (a b f : ℕ) → a < 2 ^ 64 → b < 2 ^ 64 → f < 2 ^ 64 → of_json (tree a b f) ≡ Some (mapping_data a b f)
tree_is a b f ha hb hf = rw (number_of-decimal a ha, number_of-decimal b hb, number_of-decimal f hf) refl

text_read : (a b f : ℕ) → a < 2 ^ 64 → b < 2 ^ 64 → f < 2 ^ 64 → json_value (mapping_text a b f) ≡ Some (mapping_data a b f)
unfolding json_value
text_read a b f ha hb hf =
    let utf8 : is_utf8 (mapping_text a b f) ≡ true = is_utf8-from_IsUtf8 _ (IsUtf8-from_ascii _ (ascii_text a b f ha hb hf)) in
    let lexed : tokens (mapping_text a b f) ≡ json_tokens (tree a b f) = ap tokens (text-printed a b f) ∙ tokens-print (json_tokens (tree a b f)) (printable a b f ha hb hf) in
    let grown = value-json_tokens (tree a b f) 127 [] (omega arith) in
    let whole : read (mapping_text a b f) ≡ Some (mapping_data a b f) =
    ap (λ ts. option_and_then of_json (option_and_then (λ p. json.if_last p.0 p.1) (json.value 127 ts))) (lexed ∙ sym (append-nil (json_tokens (tree a b f))))
    ∙ ap (λ r. option_and_then of_json (option_and_then (λ p. json.if_last p.0 p.1) r)) grown ∙ tree_is a b f ha hb hf in
    rw utf8 whole

-- ---- the mapping

abbrev pub clip_at : ℕ → Clip
clip_at f = source (record { path = codes "m.mp4"; tracks = None; clip_from = f })

abbrev pub two_clips : ℕ → Sequence
two_clips f = record { language = None; label = None; video_bitrate = None; audio_bitrate = None; clips = clip_at 0 ∷ clip_at f ∷ [] }

abbrev pub two_clip_mapping : ℕ → ℕ → ℕ → Mapping
two_clip_mapping a b f = record { durations = Some (a ∷ b ∷ []); discontinuity = true; segment_ms = None; sequences = two_clips f ∷ [] }

data_is : (a b f : ℕ) → is_in_range 1 86400000 a ≡ true → is_in_range 1 86400000 b ≡ true → nat_le (sum (a ∷ b ∷ [])) 864000000 ≡ true → is_in_range 0 864000000 f ≡ true →
    mapping_of_object (mapping_data a b f) ≡ Ok (two_clip_mapping a b f)
unfolding mapping_of_object sequence_of clip_of source_clip concat_clip file_name is_file_name is_utf8 chars encode_utf8
data_is a b f ha hb hs hf = rw (ha, hb, hs, hf) refl

pub mapping_is : (a b f : ℕ) → 1 ≤ a → a ≤ 86400000 → 1 ≤ b → b ≤ 86400000 → f ≤ 864000000 → mapping_of (mapping_text a b f) ≡ Ok (two_clip_mapping a b f)
unfolding mapping_of
mapping_is a b f a1 a2 b1 b2 f2 =
    let ha : is_in_range 1 86400000 a ≡ true = grind (arith, nat_tests) in
    let hb : is_in_range 1 86400000 b ≡ true = grind (arith, nat_tests) in
    let hs : nat_le (sum (a ∷ b ∷ [])) 864000000 ≡ true = le-leb _ _ (omega arith) in
    let hf : is_in_range 0 864000000 f ≡ true = grind (arith, nat_tests) in
    rw (text_read a b f (omega arith) (omega arith) (omega arith)) (data_is a b f ha hb hs hf)
