-- What a reader must believe of printed and faint rulings. `Steps` is not needed to read the contracts.
pub mod Printed
pub mod Steps
