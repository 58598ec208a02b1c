-- What a reader must believe of the lists of findings: what each list holds of a finding. `Steps` only functions cite.
pub mod Columns
pub mod Steps
