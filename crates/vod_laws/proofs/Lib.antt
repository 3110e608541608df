mod AskedParts
mod EverySample
mod FewReads
