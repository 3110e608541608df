use Rattle.vod_session.proofs.bodies.send_more.Given as goal

abbrev pub ghosts-more_in_chunks : goal.ghosts-more_in_chunks
ghosts-more_in_chunks g a = record { text = g.L.Sink.written a.link.now; faults = g.L.Sink.faults a.link.now }
