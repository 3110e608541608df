-- The edits of a track that begins after the lead.
use Rattle.std.proofs.Common.{◌≡◌, ℕ, zero, suc, ◌≤◌, ◌++◌, [], codes, pos, negsuc, refl, arith}
use Rattle.vod_bytes.specs.Fields.{be32}
use Rattle.media_model.specs.Boxes.{box, full_box}
use Rattle.media_model.specs.Clip.{edit_entry, edits}

pub edits-some : (after duration : ℕ) → 1 ≤ after → edits after duration
    ≡ box (codes "edts") (full_box (codes "elst") 1 0 (be32 2 ++ edit_entry after (negsuc 0) ++ edit_entry duration (pos 0)))
unfolding edits
edits-some zero duration some = absurd (omega (arith, some))
edits-some (suc after) duration some = refl

pub edits-none : (after duration : ℕ) → after ≡ 0 → edits after duration ≡ []
unfolding edits
edits-none zero duration none = refl
edits-none (suc after) duration none = absurd (omega (arith, none))
