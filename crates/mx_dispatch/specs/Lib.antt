-- Program: what each request does.
pub mod Program
