use Rattle.std.proofs.Common.{append_assoc}
use Rattle.flat_clip.proofs.EditLemmas.{edits-some}
use Rattle.flat_clip.proofs.tracks.put_edit_list.Goals as goal

pub returns : goal.returns
returns c =
    rw (c.in_ok-put_box.ensures, c.deref-2.ensures.value, c.into_vec-inside.ensures, c.in_ok-put_full_box.ensures, c.deref.ensures.value, c.into_vec-list.ensures, c.in_ok-put_edit-2.ensures, c.in_ok-put_edit.ensures, c.in_ok-u32.ensures.ok, c.new-inside.ensures, c.new-list.ensures, edits-some c.args.after c.args.duration c.requires) (simp append_assoc)
