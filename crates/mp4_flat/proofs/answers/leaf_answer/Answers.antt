-- Which leaves have whole packets.
use Rattle.std.proofs.Common.{refl}
use Rattle.mp4_flat.proofs.StreamLemmas.{no_stream, stream_form}
use Rattle.mp4_flat.proofs.answers.leaf_answer.Goals as goal

pub returns-in-Segment-clause-packets : goal.returns-in-Segment-clause-packets
returns-in-Segment-clause-packets g c = λ stream. c.segment_answer.ensures.packets (stream_form c.args.leaf _ _ _ c.in-Segment.form c.in-Segment.is stream)

pub returns-in-Iframe-clause-packets : goal.returns-in-Iframe-clause-packets
returns-in-Iframe-clause-packets g c = λ stream. c.iframe_answer.ensures.packets

pub returns-in-Master-clause-packets : goal.returns-in-Master-clause-packets
returns-in-Master-clause-packets g c = λ stream. no_stream c.args.leaf _ _ c.in-Master.is refl stream

pub returns-in-Mpd-clause-packets : goal.returns-in-Mpd-clause-packets
returns-in-Mpd-clause-packets g c = λ stream. no_stream c.args.leaf _ _ c.in-Mpd.is refl stream

pub returns-in-Index-clause-packets : goal.returns-in-Index-clause-packets
returns-in-Index-clause-packets g c = λ stream. no_stream c.args.leaf _ _ c.in-Index.is refl stream

pub returns-in-Init-clause-packets : goal.returns-in-Init-clause-packets
returns-in-Init-clause-packets g c = λ stream. no_stream c.args.leaf _ _ c.in-Init.is refl stream

pub returns-in-Iframes-clause-packets : goal.returns-in-Iframes-clause-packets
returns-in-Iframes-clause-packets g c = λ stream. no_stream c.args.leaf _ _ c.in-Iframes.is refl stream

pub returns-in-Clip-clause-packets : goal.returns-in-Clip-clause-packets
returns-in-Clip-clause-packets g c = λ stream. no_stream c.args.leaf _ _ c.in-Clip.is refl stream
