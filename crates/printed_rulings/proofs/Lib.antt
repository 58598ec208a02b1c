-- What is known of printed and faint rulings.
pub mod PrintedFaint
