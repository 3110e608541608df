-- Mappings that are read keep the rules.
use Rattle.std.proofs.Common.{◌≡◌, ℕ, suc, ◌≤◌, List, [], ◌∷◌, ◌++◌, length, map, Bool, true, false, cond, ◌&&◌, ◌⊎◌, inl, inr, Option, Some, None, Ok, Err, refl, ap, ◌∙◌, subst, arith, lit≤, ℤ, pos, negsuc, ◌≤ℤ◌}
use Rattle.std.specs.Prelude.{option_and_then, option_map, ok_or, nat_le, is_some, Result, IfSome, codes, sum, sum_by, int_le, ◌==◌, ⊤}
use Rattle.std.specs.Int.{is_in_range, IsInRange}
use Rattle.std.specs.List.{AllByRecursion, list_all}
use Rattle.std.specs.Str.{bytes_eq}
use Rattle.std.proofs.lemmas.Bool.{and_parts, leb-true, eqb-true}
use Rattle.std.proofs.lemmas.Int.{ints}
use Rattle.std.proofs.lemmas.List.{length-map}
use Rattle.serde_json.specs.Data.{Data}
use Rattle.serde_json.specs.Find.{as_str, as_bool, as_number, as_integer, get}
use Rattle.vod_types.specs.declared.tracks.TrackName.{TrackName}
use Rattle.vod_types.specs.declared.refusal.Refusal.{Refusal}
use Rattle.vod_types.specs.declared.refusal.Refusal.TheVariants.{BadJson, BadMapping, Unsupported}
use Rattle.vod_types.specs.Options.{passing, each}
use Rattle.vod_types.specs.Json.{json_value, object, if_present, or_default, number_within, integer_within, array_within}
use Rattle.vod_types.specs.Files.{file_name}
use Rattle.clip_model.specs.Mapping.{SourceClip, ConcatClip, Clip, source, concat, Sequence, Mapping, file_count, concat_length, IsConcatClip, IsClip, HasLength, FitDurations, IsSequence, IsDurations, IsMapping, local_mapping, local_sequence}
use Rattle.clip_model.specs.Members.{sequence_objects, top_durations, clip_count, clip_objects, language, Labels, labels, label, bitrates, clip_type, file_of_text, clip_tracks, source_clip, concat_files, has_length, concat_clip}
use Rattle.clip_model.specs.Walk.{without_members, vod_alone, typed_clip, clip_of, sequence_of, mapping_of_object, mapping_of}
use Rattle.vod_types.specs.Results.{each_in_turn}
use Rattle.vod_types.proofs.StepLemmas.{ok_or_ok, option_bind, option_mapped, passing_some, each_all}
use Rattle.vod_types.proofs.RuleLemmas.{each_in_turn_all, present_if, default_or, same_ok, after_rule, after_step, after_some}
use Rattle.vod_types.proofs.SettingsLemmas.{number_in, array_in}
use Rattle.std.proofs.lemmas.Option.{same_Some}

pub source_in : (members : Data) (c : SourceClip) → source_clip members ≡ Some c → c.clip_from ≤ 864000000
unfolding source_clip
source_in members =
    let P : SourceClip → Type 0 = λ c. c.clip_from ≤ 864000000 in
    after_some P (option_and_then file_of_text (get (codes "path") members)) _ (λ path named.
    after_some P (clip_tracks members) _ (λ tracks listed.
    after_some P (or_default 0 (number_within 0 864000000) (get (codes "clipFrom") members)) _ (λ clip_from begins c e.
    subst P (same_Some _ c e) (default_or (λ n. n ≤ 864000000) 0 (number_within 0 864000000) (get (codes "clipFrom") members) clip_from (lit≤ tt) (λ d n h. (number_in 0 864000000 d n h).1) begins))))

pub integer_in : (low high : ℤ) (d : Data) (z : ℤ) → integer_within low high d ≡ Some z → (low ≤ℤ z) × (z ≤ℤ high)
integer_in low high d z e =
    let test = λ (y : ℤ). int_le low y && int_le y high in
    let p = option_bind (λ number. option_and_then (passing test) (as_integer number)) (as_number d) z e in
    let q = option_bind (passing test) (as_integer p.0) z p.2 in
    let tests = and_parts (int_le low z) (int_le z high) (passing_some test q.0 z q.2).0 in
    (at_most low z tests.0, at_most z high tests.1)
  where
    at_most : (x y : ℤ) → int_le x y ≡ true → x ≤ℤ y
    at_most x y e = grind (arith, ints)

pub concat_files_in : (names : List (List ℕ)) (durations : List ℕ) → length names ≡ length durations → AllByRecursion (IsInRange 1 86400000) durations
    → (length (concat_files names durations) ≡ length durations) × AllByRecursion (λ f. IsInRange 1 86400000 f.duration) (concat_files names durations)
concat_files_in [] [] e h = (refl, tt)
concat_files_in [] (d ∷ ds) e h = absurd (omega (arith, e))
concat_files_in (p ∷ ps) [] e h = absurd (omega (arith, e))
concat_files_in (p ∷ ps) (d ∷ ds) e h =
    let same : length ps ≡ length ds = omega (arith, e) in
    let rest = concat_files_in ps ds same h.1 in
    (ap suc rest.0, (h.0, rest.1))

-- a concat clip that is read, with a length of its own where the mapping gives none
abbrev pub IsReadConcat : Bool → ConcatClip → Type 0
IsReadConcat given c = IsConcatClip c × (has_length given c ≡ true)

pub concat_in : (given : Bool) (members : Data) (c : ConcatClip) → concat_clip given members ≡ Some c → IsReadConcat given c
unfolding concat_clip
concat_in given members =
    after_some (IsReadConcat given) (option_and_then (array_within 1 128 as_str) (get (codes "paths") members)) _ (λ texts written.
    after_some (IsReadConcat given) (option_and_then (array_within (length texts) (length texts) (number_within 1 86400000)) (get (codes "durations") members)) _ (λ durations lasting.
    after_some (IsReadConcat given) (or_default (pos 0) (integer_within (negsuc 86399999) (pos 86400000)) (get (codes "offset") members)) _ (λ offset late.
    after_some (IsReadConcat given) (or_default [] as_str (get (codes "basePath") members)) _ (λ base before.
    after_some (IsReadConcat given) (each (λ text. file_name (base ++ text)) texts) _ (λ names named.
    after_some (IsReadConcat given) (clip_tracks members) _ (λ tracks listed c e.
    let count = texts_in members texts written in
    let lengths = durations_in members texts durations lasting in
    let files = concat_files_in names durations (omega (arith, (each_all (λ _. ⊤) (λ text. file_name (base ++ text)) texts names (λ _ _ _. tt) named).1, lengths.0)) lengths.1 in
    let bounds = default_or (λ z. (negsuc 86399999 ≤ℤ z) × (z ≤ℤ pos 86400000)) (pos 0) (integer_within (negsuc 86399999) (pos 86400000)) (get (codes "offset") members) offset (omega (arith, ints), omega (arith, ints)) (integer_in (negsuc 86399999) (pos 86400000)) late in
    let made : ConcatClip = record { files = concat_files names durations; tracks = tracks; offset = offset } in
    let kept : IsConcatClip made = record {
      file_count = (omega (arith, files.0, lengths.0, count.0), omega (arith, files.0, lengths.0, count.1));
      durations = files.1;
      offset_low = bounds.0;
      offset_high = bounds.1;
    } in
    let p = passing_some (has_length given) made c e in
    (subst IsConcatClip p.1 kept, p.0)))))))
  where
    texts_in : (members : Data) (texts : List (List ℕ)) → option_and_then (array_within 1 128 as_str) (get (codes "paths") members) ≡ Some texts → IsInRange 1 128 (length texts)
    texts_in members texts e =
        let p = option_bind (array_within 1 128 as_str) (get (codes "paths") members) texts e in
        let q = array_in (λ _. ⊤) 1 128 as_str p.0 texts (λ _ _ _. tt) p.2 in (q.0, q.1)

    durations_in : (members : Data) (texts : List (List ℕ)) (durations : List ℕ) → option_and_then (array_within (length texts) (length texts) (number_within 1 86400000)) (get (codes "durations") members) ≡ Some durations
        → (length durations ≡ length texts) × AllByRecursion (IsInRange 1 86400000) durations
    durations_in members texts durations e =
        let p = option_bind (array_within (length texts) (length texts) (number_within 1 86400000)) (get (codes "durations") members) durations e in
        let q = array_in (IsInRange 1 86400000) (length texts) (length texts) (number_within 1 86400000) p.0 durations (number_in 1 86400000) p.2 in
        (omega (arith, q.0, q.1), q.2)

pub chosen_ok : {A : Type 0} (a b : Bool) (x y : Result A Refusal) (n : Refusal) (c : A) → cond a x (cond b y (Err n)) ≡ Ok c → (x ≡ Ok c) ⊎ (y ≡ Ok c)
chosen_ok true b x y n c e = inl e
chosen_ok false true x y n c e = inr e
chosen_ok false false x y n c e = absurd (cc)

abbrev pub IsReadClip : Bool → Clip → Type 0
IsReadClip given c = IsClip c × (given ≡ false → HasLength c)

pub own_length_in : (given : Bool) (c : ConcatClip) → has_length given c ≡ true → given ≡ false → pos 1 ≤ℤ concat_length c
own_length_in true c e h = absurd (cc)
own_length_in false c e h = at_least (concat_length c) e
  where
    at_least : (z : ℤ) → int_le (pos 1) z ≡ true → pos 1 ≤ℤ z
    at_least z e = grind (arith, ints)

pub typed_in : (given : Bool) (type : List ℕ) (members : Data) (c : Clip) → typed_clip given type members ≡ Ok c → IsReadClip given c
typed_in given type members c e =
    elim (chosen_ok (bytes_eq type (codes "source")) (bytes_eq type (codes "concat")) (ok_or (option_map source (source_clip members)) (BadMapping 10)) (ok_or (option_map concat (concat_clip given members)) (BadMapping 11)) (Unsupported type) c e) [
      | inl h ↦ let p = option_mapped source (source_clip members) c (ok_or_ok (option_map source (source_clip members)) (BadMapping 10) c h) in
          subst (IsReadClip given) p.2 (source_in members p.0 p.1, λ _. tt)
      | inr h ↦ let p = option_mapped concat (concat_clip given members) c (ok_or_ok (option_map concat (concat_clip given members)) (BadMapping 11) c h) in
          let q = concat_in given members p.0 p.1 in
          subst (IsReadClip given) p.2 (q.0, own_length_in given p.0 q.1)
    ]

pub clip_in : (given : Bool) (members : Data) (c : Clip) → clip_of given members ≡ Ok c → IsReadClip given c
unfolding clip_of
clip_in given members =
    after_step (IsReadClip given) (without_members (codes "encryptionKey" ∷ codes "encryptionIv" ∷ []) members) _ (λ supported none.
    after_rule (IsReadClip given) (clip_type members) (BadMapping 9) _ (λ type typed.
    typed_in given type members))

pub each_weaker : {X : Type 0} (P Q : X → Type 0) (xs : List X) → ((x : X) → P x → Q x) → AllByRecursion P xs → AllByRecursion Q xs
each_weaker P Q [] h p = tt
each_weaker P Q (x ∷ xs) h p = (h x p.0, each_weaker P Q xs h p.1)

pub clips_fit : (durations : Option (List ℕ)) (clips : List Clip) → length clips ≡ clip_count durations → AllByRecursion (IsReadClip (is_some durations)) clips → FitDurations durations clips
clips_fit None clips e h = (e, each_weaker (IsReadClip false) HasLength clips (λ c p. p.1 refl) h)
clips_fit (Some ds) clips e h = e

pub language_in : (d : Data) (letters : List ℕ) → language d ≡ Some letters → length letters ≡ 3
language_in d letters e =
    let test = λ (text : List ℕ). length text == 3 && list_all (is_in_range 97 122) text in
    let p = option_bind (passing test) (as_str d) letters e in
    eqb-true (length letters) 3 (and_parts (length letters == 3) (list_all (is_in_range 97 122) letters) (passing_some test p.0 letters p.2).0).0

pub labels_in : (members : Data) (l : Labels) → labels members ≡ Some l → IfSome l.language (λ letters. length letters ≡ 3)
labels_in members =
    let P : Labels → Type 0 = λ l. IfSome l.language (λ letters. length letters ≡ 3) in
    after_some P (if_present language (get (codes "language") members)) _ (λ spoken said.
    after_some P (if_present label (get (codes "label") members)) _ (λ shown written l e.
    subst P (same_Some _ l e) (present_if (λ letters. length letters ≡ 3) language (get (codes "language") members) spoken language_in said)))

pub sequence_in : (durations : Option (List ℕ)) (members : Data) (s : Sequence) → sequence_of durations members ≡ Ok s → IsSequence durations s
unfolding sequence_of
sequence_in durations members =
    after_rule (IsSequence durations) (clip_objects durations members) (BadMapping 6) _ (λ objects clipped.
    after_rule (IsSequence durations) (labels members) (BadMapping 7) _ (λ named labelled.
    after_rule (IsSequence durations) (bitrates members) (BadMapping 8) _ (λ rates rated.
    after_step (IsSequence durations) (each_in_turn (clip_of (is_some durations)) objects) _ (λ read all_read.
    after_rule (IsSequence durations) (passing (λ cs. nat_le (sum_by file_count cs) 1024) read) (BadMapping 12) _ (λ clips few s e.
    let few_files = passing_some (λ cs. nat_le (sum_by file_count cs) 1024) read clips few in
    let objects_count = objects_in durations members objects clipped in
    let known = each_in_turn_all (IsReadClip (is_some durations)) (clip_of (is_some durations)) objects read (clip_in (is_some durations)) all_read in
    let P : List Clip → Type 0 = λ cs. AllByRecursion (IsReadClip (is_some durations)) cs × (length cs ≡ clip_count durations) in
    let clips_known = subst P few_files.1 (known.0, known.1 ∙ objects_count) in
    subst (IsSequence durations) (same_ok _ s e) (record {
      clips = each_weaker (IsReadClip (is_some durations)) IsClip clips (λ c p. p.0) clips_known.0;
      fit = clips_fit durations clips clips_known.1 clips_known.0;
      files = leb-true (sum_by file_count clips) 1024 few_files.0;
      language = labels_in members named labelled;
    }))))))
  where
    objects_in : (durations : Option (List ℕ)) (members : Data) (objects : List Data) → clip_objects durations members ≡ Some objects → length objects ≡ clip_count durations
    objects_in durations members objects e =
        let p = option_bind (array_within (clip_count durations) (clip_count durations) object) (get (codes "clips") members) objects e in
        let q = array_in (λ _. ⊤) (clip_count durations) (clip_count durations) object p.0 objects (λ _ _ _. tt) p.2 in
        omega (arith, q.0, q.1)

pub durations_in : (d : Data) (ds : List ℕ) → top_durations d ≡ Some ds → IsDurations ds
durations_in d ds e =
    let p = option_bind (passing (λ ns. nat_le (sum ns) 864000000)) (array_within 1 128 (number_within 1 86400000) d) ds e in
    let q = passing_some (λ ns. nat_le (sum ns) 864000000) p.0 ds p.2 in
    let P : List ℕ → Type 0 = λ ns. (1 ≤ length ns) × (length ns ≤ 128) × AllByRecursion (IsInRange 1 86400000) ns in
    let known = subst P q.1 (array_in (IsInRange 1 86400000) 1 128 (number_within 1 86400000) d p.0 (number_in 1 86400000) p.1) in
    record { count = (known.0, known.1); each = known.2; total = leb-true (sum ds) 864000000 q.0 }

pub members_in : (members : Data) (m : Mapping) → mapping_of_object members ≡ Ok m → IsMapping m
unfolding mapping_of_object
members_in members =
    after_step IsMapping (without_members (codes "clipFrom" ∷ codes "clipTo" ∷ codes "notifications" ∷ codes "closedCaptions" ∷ []) members) _ (λ supported none.
    after_step IsMapping (vod_alone members) _ (λ vod listed.
    after_rule IsMapping (sequence_objects members) (BadMapping 2) _ (λ objects sequenced.
    after_rule IsMapping (if_present top_durations (get (codes "durations") members)) (BadMapping 3) _ (λ durations lasting.
    after_rule IsMapping (or_default true as_bool (get (codes "discontinuity") members)) (BadMapping 4) _ (λ discontinuity parted.
    after_rule IsMapping (if_present (number_within 1 600000) (get (codes "segmentDuration") members)) (BadMapping 5) _ (λ segment_ms segmented.
    after_step IsMapping (each_in_turn (sequence_of durations) objects) _ (λ sequences read m e.
    let count = objects_in members objects sequenced in
    let known = each_in_turn_all (IsSequence durations) (sequence_of durations) objects sequences (sequence_in durations) read in
    subst IsMapping (same_ok _ m e) (record {
      durations = present_if IsDurations top_durations (get (codes "durations") members) durations durations_in lasting;
      segment_ms = present_if (IsInRange 1 600000) (number_within 1 600000) (get (codes "segmentDuration") members) segment_ms (number_in 1 600000) segmented;
      count = (omega (arith, known.1, count.0), omega (arith, known.1, count.1));
      sequences = known.0;
    }))))))))
  where
    objects_in : (members : Data) (objects : List Data) → sequence_objects members ≡ Some objects → IsInRange 1 32 (length objects)
    objects_in members objects e =
        let p = option_bind (array_within 1 32 object) (get (codes "sequences") members) objects e in
        let q = array_in (λ _. ⊤) 1 32 object p.0 objects (λ _ _ _. tt) p.2 in (q.0, q.1)

-- what is read keeps the rules
pub mapping_in : (bytes : List ℕ) (m : Mapping) → mapping_of bytes ≡ Ok m → IsMapping m
unfolding mapping_of
mapping_in bytes =
    after_rule IsMapping (json_value bytes) BadJson _ (λ value parsed.
    after_rule IsMapping (object value) (BadMapping 1) _ (λ members is_object.
    members_in members))

-- the mapping of local mode keeps the rules
pub local_sequences_in : (names : List (List ℕ)) (tracks : List TrackName) → AllByRecursion (IsSequence None) (map (local_sequence tracks) names)
local_sequences_in [] tracks = tt
local_sequences_in (name ∷ names) tracks =
    (record { clips = (lit≤ tt, tt); fit = (refl, (tt, tt)); files = lit≤ tt; language = tt }, local_sequences_in names tracks)

pub local_mapping_in : (names : List (List ℕ)) (tracks : List TrackName) → IsInRange 1 32 (length names) → IsMapping (local_mapping names tracks)
local_mapping_in names tracks count =
    let same : length (map (local_sequence tracks) names) ≡ length names = length-map names (local_sequence tracks) in
    record {
      durations = tt;
      segment_ms = tt;
      count = (omega (arith, count.0, same), omega (arith, count.1, same));
      sequences = local_sequences_in names tracks;
    }
