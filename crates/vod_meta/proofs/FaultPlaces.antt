-- The places of the faults of a movie box and of its tracks lie in the box.
use Rattle.std.proofs.Common.{◌≡◌, ℕ, zero, suc, ◌+◌, ◌-◌, ◌<◌, ◌≤◌, ◌^◌, Bool, true, false, cond, eqb, ltb, codes, List, [], ◌∷◌, ◌++◌, length, take, drop, Option, Some, None, Result, Ok, Err, is_some, refl, sym, ap, subst, ◌∙◌, arith, length-drop, length-take}
use Rattle.std.specs.Prelude.{filter, filter_map, flat_map, option_map, option_and_then, option_to_list, slice_get, ok_or, bytes_eq, ⊤}
use Rattle.std.specs.Bool.{then_some}
use Rattle.std.specs.Option.{option_map_or}
use Rattle.std.specs.List.{cons_option, AllByRecursion}
use Rattle.std.proofs.lemmas.Bool.{eqb-false}
use Rattle.vod_types.specs.declared.tracks.Kind.{Kind}
use Rattle.vod_types.specs.declared.tracks.TrackName.{TrackName}
use Rattle.vod_types.specs.declared.refusal.TableName.{TableName}
use Rattle.vod_types.specs.declared.refusal.TableName.TheVariants.{Mdhd, Elst, Stsd}
use Rattle.vod_types.specs.Tracks.{same_kind}
use Rattle.vod_types.specs.Results.{◌>>=◌, ◌>>◌, unless}
use Rattle.mp4_model.specs.declared.BoxHead.{BoxHead}
use Rattle.mp4_model.specs.declared.TrackFault.{TrackFault}
use Rattle.mp4_model.specs.declared.TrackFault.TheVariants as faults
use Rattle.mp4_model.specs.Boxes.{PlacedBox, header, bad_place, bad_place_inside, first_of, boxes_inside, whole_box}
use Rattle.mp4_model.specs.Edits.{no_edit, edit_in_edts, track_edit, boxes_of_moov, edit_view}
use Rattle.mp4_model.specs.Entries.{SampleEntry, first_entry, entry_type, sample_entry}
use Rattle.mp4_model.specs.Movie.{FileFault, BadBox, NoMovie, bad_places_of_mdia, bad_places_of_trak, bad_places_of_moov, traks_of, moov_tracks}
use Rattle.mp4_model.specs.Tracks.{Track, kind_of_handler, track_of, tracks_of_kind, named_track}
use Rattle.mp4_model.specs.GoodTracks.{bad_places_of_minf, read_timescale, sample_table_boxes, table_in, tables_in, first_broken_box, total_units, checked_track, good_track, track_view}
use Rattle.mp4_model.proofs.BoxesLemmas.{size_within, size_at_least_eight, bad_place-step, bad_place-end}
use Rattle.mp4_tracks.specs.Places.{LiesIn}
use Rattle.mp4_tracks.proofs.MovieLemmas.{movie-not_whole, movie-bad, movie-fragmented}
use Rattle.mp4_tracks.proofs.Lying.{insides_lie, first_of_lies, whole_lies}

-- a chain of options that came to its end
pub bind_some : {A B : Type 0} (o : Option A) (f : A → Option B) (y : B) → option_and_then f o ≡ Some y → (x : A) × (o ≡ Some x) × (f x ≡ Some y)
bind_some None f y e = absurd cc
bind_some (Some x) f y e = (x, refl, e)

-- ---- all of a list

module _ {X : Type 0} (P : X → Type 0) where
  all_append : (xs ys : List X) → AllByRecursion P xs → AllByRecursion P ys → AllByRecursion P (xs ++ ys)
  all_append [] ys a b = b
  all_append (x ∷ xs) ys a b = (a.0, all_append xs ys a.1 b)

  all_filter : (test : X → Bool) (xs : List X) → AllByRecursion P xs → AllByRecursion P (filter test xs)
  all_filter test [] a = tt
  all_filter test (x ∷ xs) a = go (test x) (all_filter test xs a.1)
    where
      go : (t : Bool) → AllByRecursion P (filter test xs) → AllByRecursion P (cond t (x ∷ filter test xs) (filter test xs))
      go true later = (a.0, later)
      go false later = later

  pub all_take : (n : ℕ) (xs : List X) → AllByRecursion P xs → AllByRecursion P (take n xs)
  all_take zero xs a = tt
  all_take (suc n) [] a = tt
  all_take (suc n) (x ∷ xs) a = (a.0, all_take n xs a.1)

  pub all_get : (xs : List X) (i : ℕ) (x : X) → AllByRecursion P xs → slice_get xs i ≡ Some x → P x
  all_get [] i x a e = absurd cc
  all_get (y ∷ xs) zero x a e = let same : y ≡ x = cc e in subst P same a.0
  all_get (y ∷ xs) (suc i) x a e = all_get xs i x a.1 e

  all_option : (o : Option X) → ((x : X) → o ≡ Some x → P x) → AllByRecursion P (option_to_list o)
  all_option None h = tt
  all_option (Some x) h = (h x refl, tt)

all_flat_map : {X Y : Type 0} (P : X → Type 0) (Q : Y → Type 0) (f : X → List Y) (xs : List X) → ((x : X) → P x → AllByRecursion Q (f x)) → AllByRecursion P xs → AllByRecursion Q (flat_map f xs)
all_flat_map P Q f [] h a = tt
all_flat_map P Q f (x ∷ xs) h a = all_append Q (f x) (flat_map f xs) (h x a.0) (all_flat_map P Q f xs h a.1)

all_filter_map : {X Y : Type 0} (P : X → Type 0) (Q : Y → Type 0) (f : X → Option Y) (xs : List X) → ((x : X) (y : Y) → P x → f x ≡ Some y → Q y) → AllByRecursion P xs → AllByRecursion Q (filter_map f xs)
all_filter_map P Q f [] h a = tt
all_filter_map {X} {Y} P Q f (x ∷ xs) h a = go (f x) refl (all_filter_map P Q f xs h a.1)
  where
    go : (o : Option Y) → f x ≡ o → AllByRecursion Q (filter_map f xs) → AllByRecursion Q (cons_option o (filter_map f xs))
    go None e later = later
    go (Some y) e later = (h x y a.0 e, later)

-- ---- where a list of boxes stops short

abbrev Within : ℕ → List ℕ → ℕ → Type 0
Within at bytes p = (at ≤ p) × (p < at + length bytes)

bad_at_end : (at : ℕ) (bytes : List ℕ) (p : ℕ) (t : Bool) → eqb (length bytes) 0 ≡ t → cond t None (Some at) ≡ Some p → Within at bytes p
bad_at_end at bytes p true is e = absurd cc
bad_at_end at bytes p false is e =
    let same : at ≡ p = cc e in
    let some = eqb-false (length bytes) 0 is in
    (omega arith, omega arith)

bad_place-within : (n at : ℕ) (bytes : List ℕ) (p : ℕ) → length bytes ≤ n → bad_place at bytes ≡ Some p → Within at bytes p
bad_place-within zero at bytes p short e = go (header bytes (length bytes)) refl
  where
    go : (o : Option BoxHead) → header bytes (length bytes) ≡ o → Within at bytes p
    go None is = bad_at_end at bytes p (eqb (length bytes) 0) refl (sym (bad_place-end at bytes is) ∙ e)
    go (Some h) is = let small = size_within bytes (length bytes) h is in let some = size_at_least_eight bytes (length bytes) h is in absurd (omega arith)
bad_place-within (suc n) at bytes p short e = go (header bytes (length bytes)) refl (λ size rest. bad_place-within n (at + size) (drop size bytes) p rest)
  where
    go : (o : Option BoxHead) → header bytes (length bytes) ≡ o →
        ((size : ℕ) → length (drop size bytes) ≤ n → bad_place (at + size) (drop size bytes) ≡ Some p → Within (at + size) (drop size bytes) p) → Within at bytes p
    go None is later = bad_at_end at bytes p (eqb (length bytes) 0) refl (sym (bad_place-end at bytes is) ∙ e)
    go (Some h) is later =
        let within = size_within bytes (length bytes) h is in
        let some = size_at_least_eight bytes (length bytes) h is in
        let left = length-drop h.size bytes in
        let found = later h.size (omega arith) (sym (bad_place-step at bytes h is) ∙ e) in
        (omega (arith, found.0), omega (arith, found.1))

module _ (moov : List ℕ) where
  abbrev InBox : ℕ → Type 0
  InBox p = p < length moov

  abbrev Lies : PlacedBox → Type 0
  Lies b = LiesIn moov b

  inside_within : (b : PlacedBox) (p : ℕ) → Lies b → bad_place_inside b ≡ Some p → InBox p
  inside_within b p lies e =
      let at : ℕ = b.at + b.head in
      let within = bad_place-within (length b.body) at b.body p (omega arith) e in
      let size : length b.body ≡ length (take (length b.body) (drop at moov)) = ap length lies in
      omega (arith, within.0, within.1, size, length-take (length b.body) (drop at moov), length-drop at moov)

  -- ---- the places in a movie box

  mdia_within : (b : PlacedBox) → Lies b → AllByRecursion InBox (bad_places_of_mdia b)
  mdia_within b lies = all_option InBox (bad_place_inside b) (λ p e. inside_within b p lies e)

  first_lies : (kind : List ℕ) (b : PlacedBox) → Lies b → AllByRecursion Lies (option_to_list (first_of kind (boxes_inside b)))
  first_lies kind b lies = all_option Lies (first_of kind (boxes_inside b)) (λ inner e. first_of_lies moov kind (boxes_inside b) inner (insides_lie moov b lies) e)

  trak_within : (b : PlacedBox) → Lies b → AllByRecursion InBox (bad_places_of_trak b)
  trak_within b lies =
      all_append InBox (flat_map bad_places_of_mdia (option_to_list (first_of (codes "mdia") (boxes_inside b)))) (option_to_list (bad_place_inside b))
      (all_flat_map Lies InBox bad_places_of_mdia (option_to_list (first_of (codes "mdia") (boxes_inside b))) mdia_within (first_lies (codes "mdia") b lies))
      (all_option InBox (bad_place_inside b) (λ p e. inside_within b p lies e))

  traks_lie : (m : PlacedBox) → Lies m → AllByRecursion Lies (traks_of m)
  traks_lie m lies = all_filter Lies (λ (b : PlacedBox). bytes_eq b.kind (codes "trak")) (boxes_inside m) (insides_lie moov m lies)

  moov_within : (m : PlacedBox) → Lies m → AllByRecursion InBox (bad_places_of_moov m)
  unfolding bad_places_of_moov
  moov_within m lies =
      all_append InBox (flat_map bad_places_of_trak (traks_of m)) (option_to_list (bad_place_inside m))
      (all_flat_map Lies InBox bad_places_of_trak (traks_of m) trak_within (traks_lie m lies))
      (all_option InBox (bad_place_inside m) (λ p e. inside_within m p lies e))

  moov_ok : (m : PlacedBox) → whole_box moov ≡ Some m → slice_get (bad_places_of_moov m) 0 ≡ None → is_some (first_of (codes "mvex") (boxes_inside m)) ≡ false → moov_tracks moov ≡ Ok (filter_map track_of (traks_of m))
  unfolding moov_tracks
  moov_ok m e sound mvex = rw (e, sound, mvex) refl

  -- what the tracks of a movie box come from, or its first fault
  data TracksFrom (r : Result (List Track) FileFault) : Type 0 where
    good : (m : PlacedBox) → Lies m → r ≡ Ok (filter_map track_of (traks_of m)) → TracksFrom r
    bad : (at : ℕ) → at ≤ length moov → r ≡ Err (BadBox at) → TracksFrom r
    fragmented : r ≡ Err NoMovie → TracksFrom r

  tracks_from : TracksFrom (moov_tracks moov)
  tracks_from = of_whole (whole_box moov) refl
    where
      of_mvex : (m : PlacedBox) (t : Bool) → whole_box moov ≡ Some m → slice_get (bad_places_of_moov m) 0 ≡ None → is_some (first_of (codes "mvex") (boxes_inside m)) ≡ t → TracksFrom (moov_tracks moov)
      of_mvex m true e sound is = fragmented (movie-fragmented moov m e sound is)
      of_mvex m false e sound is = good m (whole_lies moov m e) (moov_ok m e sound is)

      of_bad : (m : PlacedBox) (o : Option ℕ) → whole_box moov ≡ Some m → slice_get (bad_places_of_moov m) 0 ≡ o → TracksFrom (moov_tracks moov)
      of_bad m None e is = of_mvex m (is_some (first_of (codes "mvex") (boxes_inside m))) e is refl
      of_bad m (Some at) e is =
          let within = all_get InBox (bad_places_of_moov m) 0 at (moov_within m (whole_lies moov m e)) is in
          bad at (omega (arith, within)) (movie-bad moov m at e is)

      of_whole : (o : Option PlacedBox) → whole_box moov ≡ o → TracksFrom (moov_tracks moov)
      of_whole None e = bad 0 (omega arith) (movie-not_whole moov e)
      of_whole (Some m) e = of_bad m (slice_get (bad_places_of_moov m) 0) e refl

  -- a fault of the movie box stands in it
  pub moov_fault-place : (at : ℕ) → moov_tracks moov ≡ Err (BadBox at) → at ≤ length moov
  moov_fault-place at e =
      elim tracks_from [
        | good m lies is ↦ let p = sym is ∙ e in absurd cc
        | bad place within is ↦ let p = sym is ∙ e in let same : place ≡ at = cc in omega arith
        | fragmented is ↦ let p = sym is ∙ e in absurd cc
      ]

  -- ---- the places in a track

  abbrev TrackLies : Track → Type 0
  TrackLies t = AllByRecursion Lies t.mdia × AllByRecursion Lies t.trak

  track_lies : (trak : PlacedBox) (t : Track) → Lies trak → track_of trak ≡ Some t → TrackLies t
  unfolding track_of
  track_lies trak t lies e =
      let mdia = bind_some (first_of (codes "mdia") (boxes_inside trak)) _ t e in
      let hdlr = bind_some (first_of (codes "hdlr") (boxes_inside mdia.0)) _ t mdia.2 in
      let kind = bind_some (kind_of_handler (take 4 (drop 8 hdlr.0.body))) _ t hdlr.2 in
      let same : ◌≡◌ {A = Track} (record { kind = kind.0; trak = boxes_inside trak; mdia = boxes_inside mdia.0 }) t = cc kind.2 in
      let inner = first_of_lies moov (codes "mdia") (boxes_inside trak) mdia.0 (insides_lie moov trak lies) mdia.1 in
      subst TrackLies same (insides_lie moov mdia.0 inner, insides_lie moov trak lies)

  tracks_lie : (ts : List Track) → moov_tracks moov ≡ Ok ts → AllByRecursion TrackLies ts
  tracks_lie ts e =
      elim tracks_from [
        | good m lies is ↦
            let p = sym is ∙ e in
            let same : filter_map track_of (traks_of m) ≡ ts = cc in
            subst (AllByRecursion TrackLies) same (all_filter_map Lies TrackLies track_of (traks_of m) track_lies (traks_lie m lies))
        | bad place within is ↦ let p = sym is ∙ e in absurd cc
        | fragmented is ↦ let p = sym is ∙ e in absurd cc
      ]

  named_lies : (ts : List Track) (name : TrackName) (t : Track) → AllByRecursion TrackLies ts → named_track ts name ≡ Some t → TrackLies t
  unfolding named_track tracks_of_kind
  named_lies ts name t lie e = by_number (eqb name.number 0) refl e
    where
      same : Track → Bool
      same u = same_kind u.kind name.kind

      by_number : (z : Bool) → eqb name.number 0 ≡ z → cond z None (slice_get (take 99 (filter same ts)) (name.number - 1)) ≡ Some t → TrackLies t
      by_number true z e = absurd cc
      by_number false z e = all_get TrackLies (take 99 (filter same ts)) (name.number - 1) t (all_take TrackLies 99 (filter same ts) (all_filter TrackLies same ts lie)) e

  -- what is known of a fault of a track that is there
  abbrev pub IsFaultIn : TrackFault → Type 0
  IsFaultIn faults.Absent = ⊥
  IsFaultIn (faults.Box at) = at < length moov
  IsFaultIn fault = ⊤

  module _ (fault : TrackFault) where
    step : {A B : Type 0} (r : Result A TrackFault) (f : A → Result B TrackFault) → ((d : TrackFault) → r ≡ Err d → IsFaultIn d) → ((x : A) → f x ≡ Err fault → IsFaultIn fault) → (r >>= f) ≡ Err fault → IsFaultIn fault
    step (Ok x) f here later e = later x e
    step (Err d) f here later e = let same : d ≡ fault = cc e in subst IsFaultIn same (here d refl)

    then_step : {B : Type 0} (o : Option TrackFault) (r : Result B TrackFault) → ((d : TrackFault) → o ≡ Some d → IsFaultIn d) → (r ≡ Err fault → IsFaultIn fault) → (unless o >> r) ≡ Err fault → IsFaultIn fault
    then_step None r here later e = later e
    then_step (Some d) r here later e = let same : d ≡ fault = cc e in subst IsFaultIn same (here d refl)

  of_ok_or : {A : Type 0} (o : Option A) (a d : TrackFault) → IsFaultIn a → ok_or o a ≡ Err d → IsFaultIn d
  of_ok_or None a d is e = let same : a ≡ d = cc e in subst IsFaultIn same is
  of_ok_or (Some x) a d is e = absurd cc

  of_option : {A : Type 0} (f : A → TrackFault) (o : Option A) (d : TrackFault) → ((x : A) → o ≡ Some x → IsFaultIn (f x)) → option_map f o ≡ Some d → IsFaultIn d
  of_option f None d is e = absurd cc
  of_option f (Some x) d is e = let same : f x ≡ d = cc e in subst IsFaultIn same (is x refl)

  of_test : (t : Bool) (a d : TrackFault) → IsFaultIn a → then_some t a ≡ Some d → IsFaultIn d
  of_test false a d is e = absurd cc
  of_test true a d is e = let same : a ≡ d = cc e in subst IsFaultIn same is

  minf_within : (b : PlacedBox) → Lies b → AllByRecursion InBox (bad_places_of_minf b)
  minf_within b lies =
      all_append InBox (flat_map (λ (stbl : PlacedBox). option_to_list (bad_place_inside stbl)) (option_to_list (first_of (codes "stbl") (boxes_inside b)))) (option_to_list (bad_place_inside b))
      (all_flat_map Lies InBox (λ (stbl : PlacedBox). option_to_list (bad_place_inside stbl)) (option_to_list (first_of (codes "stbl") (boxes_inside b))) mdia_within (first_lies (codes "stbl") b lies))
      (all_option InBox (bad_place_inside b) (λ p e. inside_within b p lies e))

  table_fault : (mdia : List PlacedBox) (d : TrackFault) → AllByRecursion Lies mdia → sample_table_boxes mdia ≡ Err d → IsFaultIn d
  unfolding sample_table_boxes
  table_fault mdia d lie e =
      let minf : Option PlacedBox = first_of (codes "minf") mdia in
      let places : List ℕ = flat_map bad_places_of_minf (option_to_list minf) in
      let lies = all_option Lies minf (λ b is. first_of_lies moov (codes "minf") mdia b lie is) in
      let within = all_flat_map Lies InBox bad_places_of_minf (option_to_list minf) minf_within lies in
      then_step d (option_map (λ (at : ℕ). faults.Box at) (slice_get places 0)) _
      (λ x is. of_option (λ (at : ℕ). faults.Box at) (slice_get places 0) x (λ at found. all_get InBox places 0 at within found) is)
      (λ none. absurd cc) e

  checked_fault : (timescale : ℕ) (stbl : List PlacedBox) (entry : List ℕ) (used : SampleEntry) (d : TrackFault) → checked_track timescale stbl entry used ≡ Err d → IsFaultIn d
  unfolding checked_track
  checked_fault timescale stbl entry used d e =
      then_step d (option_map (λ (table : TableName). faults.Table table) (first_broken_box stbl timescale)) _
      (λ x is. of_option (λ (table : TableName). faults.Table table) (first_broken_box stbl timescale) x (λ table found. tt) is)
      (λ rest. then_step d (then_some (ltb (2 ^ 40) (total_units (tables_in stbl) timescale)) faults.TooLong) _
      (λ x is. of_test (ltb (2 ^ 40) (total_units (tables_in stbl) timescale)) faults.TooLong x tt is) (λ none. absurd cc) rest)
      e

  track_fault : (kind : Kind) (mdia : List PlacedBox) (d : TrackFault) → AllByRecursion Lies mdia → good_track kind mdia ≡ Err d → IsFaultIn d
  unfolding good_track
  track_fault kind mdia d lie e =
      step d (ok_or (table_in mdia (codes "mdhd") read_timescale) (faults.Table Mdhd)) _
      (λ x is. of_ok_or (table_in mdia (codes "mdhd") read_timescale) (faults.Table Mdhd) x tt is)
      (λ timescale at_boxes.
      step d (sample_table_boxes mdia) _
      (λ x is. table_fault mdia x lie is)
      (λ stbl at_entry.
      step d (ok_or (table_in stbl (codes "stsd") first_entry) (faults.Table Stsd)) _
      (λ x is. of_ok_or (table_in stbl (codes "stsd") first_entry) (faults.Table Stsd) x tt is)
      (λ entry at_used.
      step d (ok_or (sample_entry kind entry) (faults.Codec (entry_type entry))) _
      (λ x is. of_ok_or (sample_entry kind entry) (faults.Codec (entry_type entry)) x tt is)
      (λ used at_checks. checked_fault timescale stbl entry used d at_checks)
      at_used) at_entry) at_boxes) e

  -- a track that isn't there, or one with a fault
  pub data IsViewFault (ts : List Track) (name : TrackName) (fault : TrackFault) : Type 0 where
    not_there : named_track ts name ≡ None → fault ≡ faults.Absent → IsViewFault ts name fault
    faulty : (t : Track) → named_track ts name ≡ Some t → IsFaultIn fault → IsViewFault ts name fault

  pub view_fault : (ts : List Track) (name : TrackName) (fault : TrackFault) → moov_tracks moov ≡ Ok ts → track_view ts name ≡ Err fault → IsViewFault ts name fault
  unfolding track_view
  view_fault ts name fault made e = go (named_track ts name) refl e
    where
      go : (o : Option Track) → named_track ts name ≡ o → (ok_or o faults.Absent >>= λ track. good_track track.kind track.mdia) ≡ Err fault → IsViewFault ts name fault
      go None is e = not_there is (let same : faults.Absent ≡ fault = cc e in sym same)
      go (Some t) is e = faulty t is (track_fault t.kind t.mdia fault (named_lies ts name t (tracks_lie ts made) is).0 e)

  -- ---- the places in an edit list

  edts_fault : (movie : Option ℕ) (timescale : ℕ) (edts : PlacedBox) (d : TrackFault) → Lies edts → edit_in_edts movie timescale edts ≡ Err d → IsFaultIn d
  unfolding edit_in_edts
  edts_fault movie timescale edts d lies e =
      then_step d (option_map (λ (at : ℕ). faults.Box at) (bad_place_inside edts)) _
      (λ x is. of_option (λ (at : ℕ). faults.Box at) (bad_place_inside edts) x (λ at found. inside_within edts at lies found) is)
      (λ rest. of_ok_or _ (faults.Table Elst) d tt rest) e

  track_edit_fault : (boxes : List PlacedBox) (timescale : ℕ) (t : Track) (d : TrackFault) → AllByRecursion Lies t.trak → track_edit boxes timescale t ≡ Err d → IsFaultIn d
  unfolding track_edit
  track_edit_fault boxes timescale t d lie e = go (first_of (codes "edts") t.trak) refl e
    where
      go : (o : Option PlacedBox) → first_of (codes "edts") t.trak ≡ o → option_map_or (edit_in_edts (table_in boxes (codes "mvhd") read_timescale) timescale) o (Ok no_edit) ≡ Err d → IsFaultIn d
      go None is e = absurd cc
      go (Some edts) is e = edts_fault (table_in boxes (codes "mvhd") read_timescale) timescale edts d (first_of_lies moov (codes "edts") t.trak edts lie is) e

  -- the edit of a track that isn't there, or one with a fault
  pub data IsEditFault (fault : TrackFault) : Type 0 where
    no_track : fault ≡ faults.Absent → IsEditFault fault
    in_edit : IsFaultIn fault → IsEditFault fault

  pub edit_fault : (ts : List Track) (name : TrackName) (fault : TrackFault) → moov_tracks moov ≡ Ok ts → edit_view moov ts name ≡ Err fault → IsEditFault fault
  unfolding edit_view
  edit_fault ts name fault made e = go (named_track ts name) refl e
    where
      go : (o : Option Track) → named_track ts name ≡ o →
          (ok_or o faults.Absent >>= λ track. ok_or (table_in track.mdia (codes "mdhd") read_timescale) (faults.Table Mdhd) >>= λ timescale. track_edit (boxes_of_moov moov) timescale track) ≡ Err fault → IsEditFault fault
      go None is e = no_track (let same : faults.Absent ≡ fault = cc e in sym same)
      go (Some t) is e =
          in_edit (step fault (ok_or (table_in t.mdia (codes "mdhd") read_timescale) (faults.Table Mdhd)) (λ timescale. track_edit (boxes_of_moov moov) timescale t)
          (λ x none. of_ok_or (table_in t.mdia (codes "mdhd") read_timescale) (faults.Table Mdhd) x tt none)
          (λ timescale rest. track_edit_fault (boxes_of_moov moov) timescale t fault (named_lies ts name t (tracks_lie ts made) is).1 rest) e)
