-- What a host in C gets besides document 01's calls.
pub mod Host
