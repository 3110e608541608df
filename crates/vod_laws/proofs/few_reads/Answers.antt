use Rattle.vod_laws.proofs.FewReads.{few_movie_reads, few_mapping_reads, few_request_reads}
use Rattle.vod_laws.proofs.few_reads.Goals as goal

pub returns-clause-movie : goal.returns-clause-movie
returns-clause-movie c = few_movie_reads

pub returns-clause-mapping : goal.returns-clause-mapping
returns-clause-mapping c = few_mapping_reads

pub returns-clause-request : goal.returns-clause-request
returns-clause-request c = few_request_reads
